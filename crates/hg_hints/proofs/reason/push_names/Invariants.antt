use Rattle.std.proofs.Common.{◌≡◌, ◌++◌, map, take}
use Rattle.toml.specs.View.{view}
use Rattle.hg_show.specs.Rows.{names_in}
use Rattle.hg_hints.proofs.Finds.{texts}
use Rattle.hg_hints.proofs.reason.push_names.Given as goal

-- the names of the rows so far
abbrev pub invariant-loop-row : goal.invariant-loop-row
invariant-loop-row l = texts l.names.items ≡ texts l.fn.names.items ++ names_in (map view (take l.row-index l.rows))

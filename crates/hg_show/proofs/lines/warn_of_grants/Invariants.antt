use Rattle.std.proofs.Common.{◌≡◌, ◌++◌, map, take}
use Rattle.toml.specs.View.{view}
use Rattle.hg_show.specs.Texts.{texts_in}
use Rattle.hg_show.specs.Warnings.{by_place, grant_warnings}
use Rattle.hg_show.proofs.lines.warn_of_grants.Given as goal

-- the rows so far are told
abbrev pub invariant-loop-i : goal.invariant-loop-i
invariant-loop-i l = texts_in l.texts.items ≡ texts_in l.fn.texts.items ++ by_place (grant_warnings l.policy (map view l.groups)) (map view (take l.i l.rows))

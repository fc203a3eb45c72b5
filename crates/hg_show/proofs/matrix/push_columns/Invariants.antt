use Rattle.std.proofs.Common.{◌≡◌, ◌++◌, take}
use Rattle.std.specs.List.{flat_map}
use Rattle.hg_show.specs.Matrix.{column}
use Rattle.hg_show.proofs.matrix.push_columns.Given as goal

-- the owners so far are told
abbrev pub invariant-loop-owner : goal.invariant-loop-owner
invariant-loop-owner l = l.out.items ≡ l.fn.out.items ++ flat_map (column l.policy l.actor) (take l.owner-index l.band)

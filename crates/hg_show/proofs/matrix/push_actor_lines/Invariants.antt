use Rattle.std.proofs.Common.{◌≡◌, ◌++◌}
use Rattle.std.specs.List.{flat_map, range_with_len}
use Rattle.hg_show.specs.Matrix.{actor_line}
use Rattle.hg_show.proofs.matrix.push_actor_lines.Given as goal

-- the numbers so far are told
abbrev pub invariant-loop-actor : goal.invariant-loop-actor
invariant-loop-actor l = l.out.items ≡ l.fn.out.items ++ flat_map (actor_line l.policy l.band) (range_with_len 0 l.actor)

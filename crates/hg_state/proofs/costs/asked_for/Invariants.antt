use Rattle.std.proofs.Common.{◌≡◌, ◌-◌, ◌^◌, min, take}
use Rattle.std.specs.List.{sum_by}
use Rattle.hg_state.specs.Costs.{bytes_in}
use Rattle.hg_state.proofs.costs.asked_for.Given as goal

-- the bytes of the blocks so far
abbrev pub invariant-loop-block : goal.invariant-loop-block
invariant-loop-block l = l.asked ≡ min (sum_by (bytes_in l.class) (take l.block-index l.blocks)) (2 ^ 64 - 1)

use Rattle.std.proofs.Common.{◌≡◌, filter, take}
use Rattle.hg_state.specs.Costs.{is_standing}
use Rattle.hg_state.proofs.costs.standing.Given as goal

-- of the blocks so far those that stand
abbrev pub invariant-loop-block : goal.invariant-loop-block
invariant-loop-block l = l.standing.items ≡ filter (is_standing l.core.state) (take l.block-index l.blocks)

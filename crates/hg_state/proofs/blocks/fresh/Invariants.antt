use Rattle.std.proofs.Common.{◌≡◌, filter}
use Rattle.std.specs.List.{range_with_len}
use Rattle.hg_state.specs.Blocks.{is_apart}
use Rattle.hg_state.proofs.blocks.fresh.Given as goal

-- of the segments so far those that are fresh are kept
abbrev pub invariant-loop-segment : goal.invariant-loop-segment
invariant-loop-segment l = l.fresh.items ≡ filter (is_apart l.core.state l.orphans) (range_with_len 0 l.segment)

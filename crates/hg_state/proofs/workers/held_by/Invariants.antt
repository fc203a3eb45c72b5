use Rattle.std.proofs.Common.{◌≡◌, filter}
use Rattle.std.specs.List.{range_with_len}
use Rattle.hg_machine.specs.Holders.{holds}
use Rattle.hg_state.proofs.workers.held_by.Given as goal

-- of the segments so far those that it holds are kept
abbrev pub invariant-loop-segment : goal.invariant-loop-segment
invariant-loop-segment l = l.held.items ≡ filter (holds l.core.state l.worker) (range_with_len 0 l.segment)

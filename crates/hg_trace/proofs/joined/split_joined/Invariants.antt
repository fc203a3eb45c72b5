use Rattle.std.proofs.Common.{◌≡◌, ◌≤◌, ◌++◌, length, take, drop}
use Rattle.std.specs.List.{concat}
use Rattle.hg_trace.specs.Joined.{around_mark, policy_in, trace_in}
use Rattle.hg_trace.proofs.joined.split_joined.Given as goal

abbrev pub invariant-loop-line : goal.invariant-loop-line
invariant-loop-line l = record {
  within : l.at ≤ length l.bytes;
  left : concat l.lines ≡ drop l.at l.bytes;
  policy : take l.at l.bytes ++ concat (around_mark l.lines).0 ≡ policy_in l.bytes;
  trace : concat (around_mark l.lines).1 ≡ trace_in l.bytes;
}

abbrev pub decreases-loop-line : goal.decreases-loop-line
decreases-loop-line l = length l.lines

use Rattle.std.proofs.Common.{◌≡◌, ◌++◌, ◌+◌, ◌-◌, ◌≤◌, ◌⊎◌, length, replicate}
use Rattle.hg_trace.proofs.trace.note_first.Given as goal

-- what was put behind is this number each time, and no more than is asked for
abbrev pub invariant-loop-firsts : goal.invariant-loop-firsts
invariant-loop-firsts l = record {
  behind : l.firsts.items ≡ l.fn.firsts.items ++ replicate (length l.firsts.items - length l.fn.firsts.items) l.fn.number;
  bound : (length l.firsts.items ≤ l.fn.worker + 1) ⊎ (l.firsts.items ≡ l.fn.firsts.items);
}

abbrev pub decreases-loop-firsts : goal.decreases-loop-firsts
decreases-loop-firsts l = l.fn.worker + 1 - length l.firsts.items

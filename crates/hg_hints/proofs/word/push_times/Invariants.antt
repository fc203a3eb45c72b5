use Rattle.std.proofs.Common.{◌≡◌, ◌++◌, replicate}
use Rattle.hg_hints.proofs.word.push_times.Given as goal

-- it stands so many times
abbrev pub invariant-loop-i : goal.invariant-loop-i
invariant-loop-i l = l.out.items ≡ l.fn.out.items ++ replicate l._i l.b

use Rattle.std.proofs.Common.{◌≡◌, ◌++◌, replicate}
use Rattle.hg_show.proofs.push.push_blanks.Given as goal

-- so many blanks are there
abbrev pub invariant-loop-i : goal.invariant-loop-i
invariant-loop-i l = l.out.items ≡ l.fn.out.items ++ replicate l._i 32

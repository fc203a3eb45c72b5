use Rattle.std.proofs.Common.{◌≡◌, drop}
use Rattle.hg_expect.specs.Words.{is_slip}
use Rattle.hg_expect.proofs.words.is_slip.Given as goal

-- what is left has the answer
abbrev pub invariant-loop-at : goal.invariant-loop-at
invariant-loop-at l = is_slip (drop l.at l.line) ≡ is_slip l.line

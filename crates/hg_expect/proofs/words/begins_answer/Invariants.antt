use Rattle.std.proofs.Common.{◌≡◌, drop}
use Rattle.hg_expect.specs.Words.{begins_answer}
use Rattle.hg_expect.proofs.words.begins_answer.Given as goal

-- what is left has the answer
abbrev pub invariant-loop-at : goal.invariant-loop-at
invariant-loop-at l = begins_answer (drop l.at l.text) ≡ begins_answer l.text

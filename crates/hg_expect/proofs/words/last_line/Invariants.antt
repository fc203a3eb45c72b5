use Rattle.std.proofs.Common.{◌≡◌, drop}
use Rattle.hg_expect.specs.Words.{last_from, last_line}
use Rattle.hg_expect.proofs.words.last_line.Given as goal

-- what is left goes on from the line so far
abbrev pub invariant-loop-b : goal.invariant-loop-b
invariant-loop-b l = last_from l.line.items l.ended (drop l.b-index l.text) ≡ last_line l.text

use Rattle.std.proofs.Common.{◌≡◌, ◌++◌, drop}
use Rattle.hg_expect.specs.Words.{words, words_from}
use Rattle.hg_expect.proofs.words.words.Given as goal

-- the words of what is left go behind those so far
abbrev pub invariant-loop-b : goal.invariant-loop-b
invariant-loop-b l = l.out.items ++ words_from l.within (drop l.b-index l.text) ≡ words l.text

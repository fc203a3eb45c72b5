use Rattle.hg_reserved.proofs.OverlaidLemmas.{length-overlaid}
use Rattle.hg_words.proofs.memory.WordMemory.copy_in.Goals as goal

pub invariant_of-self : goal.invariant_of-self
invariant_of-self c = rw (c.copy_in.ensures, length-overlaid) c.self.invariant

pub returns-clause-all : goal.returns-clause-all
returns-clause-all c = invariant_of-self c

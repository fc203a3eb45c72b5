use Rattle.hg_trace.proofs.WordFaults.{wrong_words_are_faults as law}
use Rattle.hg_trace.proofs.laws.wrong_words_are_faults.Goals as goal

pub returns : goal.returns
returns c = law

use Rattle.hg_trace.proofs.WordFaults.{right_words_are_read as law}
use Rattle.hg_trace.proofs.laws.right_words_are_read.Goals as goal

pub returns : goal.returns
returns c = law

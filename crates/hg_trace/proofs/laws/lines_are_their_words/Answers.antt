use Rattle.hg_trace.proofs.PlainLines.{lines_are_their_words as law}
use Rattle.hg_trace.proofs.laws.lines_are_their_words.Goals as goal

pub returns : goal.returns
returns c = law

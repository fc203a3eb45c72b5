use Rattle.hg_trace.proofs.PlainBlocks.{handles_are_their_texts as law}
use Rattle.hg_trace.proofs.laws.handles_are_their_texts.Goals as goal

pub returns : goal.returns
returns c = law

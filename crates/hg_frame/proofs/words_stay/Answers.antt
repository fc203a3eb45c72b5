use Rattle.hg_frame.proofs.SlotWordLemmas.{words_stay as law}
use Rattle.hg_frame.proofs.words_stay.Goals as goal

pub returns : goal.returns
returns c = law

use Rattle.hg_place.proofs.WordReads.{same_word}
use Rattle.hg_place.proofs.laws.words_are_of_one_handle.Goals as goal

pub returns : goal.returns
returns c = same_word

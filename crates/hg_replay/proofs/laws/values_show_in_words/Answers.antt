use Rattle.hg_replay.proofs.ValuesInWords.{values_show_in_words as law}
use Rattle.hg_replay.proofs.laws.values_show_in_words.Goals as goal

pub returns : goal.returns
returns c = law

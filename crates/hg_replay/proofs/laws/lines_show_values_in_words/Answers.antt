use Rattle.hg_replay.proofs.ValuesInWords.{lines_show_values_in_words as law}
use Rattle.hg_replay.proofs.laws.lines_show_values_in_words.Goals as goal

pub returns : goal.returns
returns c = law

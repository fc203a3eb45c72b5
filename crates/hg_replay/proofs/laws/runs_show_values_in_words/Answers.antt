use Rattle.hg_replay.proofs.StatusLaws.{runs_show_values_in_words as law}
use Rattle.hg_replay.proofs.laws.runs_show_values_in_words.Goals as goal

pub returns : goal.returns
returns c = law

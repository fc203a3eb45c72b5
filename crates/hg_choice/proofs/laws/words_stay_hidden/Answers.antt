use Rattle.hg_choice.proofs.WordLemmas.{words_stay_hidden as law}
use Rattle.hg_choice.proofs.laws.words_stay_hidden.Goals as goal

pub returns : goal.returns
returns c = law

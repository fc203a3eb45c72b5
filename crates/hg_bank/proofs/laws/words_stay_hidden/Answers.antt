use Rattle.hg_bank.proofs.HiddenLemmas.{words_stay_hidden as law}
use Rattle.hg_bank.proofs.laws.words_stay_hidden.Goals as goal

pub returns : goal.returns
returns c = law

use Rattle.hg_choice.proofs.ForgottenLemmas.{words_may_be_forgotten as law}
use Rattle.hg_choice.proofs.laws.words_may_be_forgotten.Goals as goal

pub returns : goal.returns
returns c = law

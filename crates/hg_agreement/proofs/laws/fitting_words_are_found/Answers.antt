use Rattle.hg_agreement.proofs.Usual.{fitting_words_are_found as law}
use Rattle.hg_agreement.proofs.laws.fitting_words_are_found.Goals as goal

pub returns : goal.returns
returns c = law

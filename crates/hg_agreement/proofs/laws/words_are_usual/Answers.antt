use Rattle.hg_agreement.proofs.Usual.{words_are_usual as law}
use Rattle.hg_agreement.proofs.laws.words_are_usual.Goals as goal

pub returns : goal.returns
returns c = law

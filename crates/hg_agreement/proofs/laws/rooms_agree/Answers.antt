use Rattle.hg_agreement.proofs.Answers.{rooms_agree as law}
use Rattle.hg_agreement.proofs.laws.rooms_agree.Goals as goal

pub returns : goal.returns
returns c = law

use Rattle.hg_agreement.proofs.Answers.{row_is_there as law}
use Rattle.hg_agreement.proofs.laws.row_is_there.Goals as goal

pub returns : goal.returns
returns c = law

use Rattle.hg_agreement.proofs.Witnesses.{witness_agrees as law}
use Rattle.hg_agreement.proofs.laws.witness_agrees.Goals as goal

pub returns : goal.returns
returns c = law

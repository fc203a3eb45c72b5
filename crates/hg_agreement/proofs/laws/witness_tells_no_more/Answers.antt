use Rattle.hg_agreement.proofs.NoMore.{witness_tells_no_more as law}
use Rattle.hg_agreement.proofs.laws.witness_tells_no_more.Goals as goal

pub returns : goal.returns
returns c = law

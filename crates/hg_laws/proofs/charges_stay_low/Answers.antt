use Rattle.hg_laws.proofs.LimitsLemmas.{charges_stay_low as law}
use Rattle.hg_laws.proofs.charges_stay_low.Goals as goal

pub returns : goal.returns
returns c = law

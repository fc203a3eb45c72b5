use Rattle.hg_bank.proofs.LimitLemmas.{sums_stay_low as law}
use Rattle.hg_bank.proofs.laws.sums_stay_low.Goals as goal

pub returns : goal.returns
returns c = law

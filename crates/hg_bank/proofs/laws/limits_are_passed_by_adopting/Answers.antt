use Rattle.hg_bank.proofs.LimitLemmas.{limits_are_passed_by_adopting as law}
use Rattle.hg_bank.proofs.laws.limits_are_passed_by_adopting.Goals as goal

pub returns : goal.returns
returns c = law

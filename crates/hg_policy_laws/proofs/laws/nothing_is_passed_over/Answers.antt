use Rattle.hg_policy_laws.proofs.SaidWhole.{nothing_is_passed_over as law}
use Rattle.hg_policy_laws.proofs.laws.nothing_is_passed_over.Goals as goal

pub returns : goal.returns
returns c = law

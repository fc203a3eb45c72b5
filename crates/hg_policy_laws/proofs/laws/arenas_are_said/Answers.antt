use Rattle.hg_policy_laws.proofs.SaidLaws.{arenas_are_said as law}
use Rattle.hg_policy_laws.proofs.laws.arenas_are_said.Goals as goal

pub returns : goal.returns
returns c = law

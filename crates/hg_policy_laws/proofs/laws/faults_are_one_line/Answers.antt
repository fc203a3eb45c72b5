use Rattle.hg_policy_laws.proofs.PlainLines.{faults_are_one_line as law}
use Rattle.hg_policy_laws.proofs.laws.faults_are_one_line.Goals as goal

pub returns : goal.returns
returns c = law

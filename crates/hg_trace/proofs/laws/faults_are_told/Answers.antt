use Rattle.hg_trace.proofs.LabelFaults.{faults_are_told as law}
use Rattle.hg_trace.proofs.laws.faults_are_told.Goals as goal

pub returns : goal.returns
returns c = law

use Rattle.hg_run_worker.proofs.LogsOfWorkers.{frees_are_once as law}
use Rattle.hg_run_worker.proofs.laws.frees_are_once.Goals as goal

pub returns : goal.returns
returns c = law

use Rattle.hg_run_worker.proofs.Agreeing.{met_alone}
use Rattle.hg_run_worker.proofs.worker.RunWorker.refuse.Goals as goal

pub returns-clause-agreed : goal.returns-clause-agreed
returns-clause-agreed g c = met_alone _ _ _ c.requires.worker c.refuse.ensures.agreed

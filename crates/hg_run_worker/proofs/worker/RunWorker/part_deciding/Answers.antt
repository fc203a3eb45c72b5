use Rattle.hg_run_worker.proofs.Agreeing.{met_at}
use Rattle.hg_run_worker.proofs.worker.RunWorker.part_deciding.Goals as goal

pub returns-clause-met : goal.returns-clause-met
returns-clause-met g c =
    met_at _ _ _ c.args.place c.call_at_part.result c.requires.worker c.call_at_part.ensures.found

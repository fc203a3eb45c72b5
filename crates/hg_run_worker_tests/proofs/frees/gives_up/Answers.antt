use Rattle.hg_run_worker_tests.proofs.Logged.{logged_still}
use Rattle.hg_run_worker_tests.proofs.frees.gives_up.Goals as goal

pub returns-clause-logged : goal.returns-clause-logged
returns-clause-logged c = λ handle had.
    logged_still handle c.args.worker.now c.abandon.new.self _ c.abandon.ensures.called.log had

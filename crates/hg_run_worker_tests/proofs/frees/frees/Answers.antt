use Rattle.std.proofs.Common.{◌∙◌, sym}
use Rattle.hg_run_worker_tests.proofs.Logged.{free_logged}
use Rattle.hg_run_worker_tests.proofs.frees.frees.Goals as goal

pub returns-clause-logged : goal.returns-clause-logged
returns-clause-logged c = λ freed.
    free_logged _ c.args.handle c.args.worker.now c.free_here.new.self c.free_here.result
    c.free_here.ensures.called.called.log (sym c.is_ok.ensures.value ∙ freed)

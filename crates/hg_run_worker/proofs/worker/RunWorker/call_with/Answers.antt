use Rattle.std.proofs.Common.{[], ◌∷◌, refl}
use Rattle.hg_roles.specs.Roles.{of_worker}
use Rattle.hg_run_table.specs.Calls.{log_in}
use Rattle.hg_run_table.specs.Seated.{HaveRoles}
use Rattle.hg_run_table.proofs.WorkerSteps.{own_log}
use Rattle.hg_run_worker.proofs.worker.RunWorker.call_with.Goals as goal
use Rattle.hg_run_worker.proofs.worker.RunWorker.call_with.Goals.{After-split-blank}
use Rattle.hg_run_worker.proofs.worker.RunWorker.call_with.Given.{Over}

-- the worker's part stays with its seat
stays : (g : Over) (c : After-split-blank g)
    → HaveRoles c.split-blank.new.seat.seat.me.0.run
    (of_worker g.W.OwnCall.before (log_in c.args.self.now.call) ∷ [])
stays g c = (c.split-blank.ensures.roles _ [] refl c.requires.worker).0

pub call_together-requires-clause-worker : goal.call_together-requires-clause-worker
call_together-requires-clause-worker g c =
    own_log c.split-blank.new.seat.seat.me.0.run g.W.OwnCall.before (log_in c.args.self.now.call)
    (stays g (goal.at.call_together-requires-clause-worker g c).After-split-blank)

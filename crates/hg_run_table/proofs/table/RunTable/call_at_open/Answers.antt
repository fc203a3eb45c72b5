use Rattle.hg_run_table.proofs.WorkerSteps.{decides_at, called_is}
use Rattle.hg_run_table.proofs.table.RunTable.call_at_open.Goals as goal

pub open_deciding-requires-clause-decides : goal.open_deciding-requires-clause-decides
open_deciding-requires-clause-decides g c =
    decides_at _ _ g.W.WorkerCall.before _ _ (λ _. c.args.live) (λ _. g.W.WorkerCall.call c.args.live) (λ _. g.W.WorkerCall.after c.args.live) c.requires.tied c.requires.place

pub returns-clause-log : goal.returns-clause-log
returns-clause-log g c = (called_is _ g.W.WorkerCall.before (g.W.WorkerCall.after _) _ (g.W.WorkerCall.call _) c.open_deciding.ensures.roles).0

pub returns-clause-worker : goal.returns-clause-worker
returns-clause-worker g c = (called_is _ g.W.WorkerCall.before (g.W.WorkerCall.after _) _ (g.W.WorkerCall.call _) c.open_deciding.ensures.roles).1

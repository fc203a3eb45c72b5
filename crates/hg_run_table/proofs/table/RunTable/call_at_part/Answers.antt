use Rattle.hg_table.specs.Steps.{left_by, part_from}
use Rattle.hg_run_table.proofs.WorkerSteps.{decides_at, called_is}
use Rattle.hg_run_table.proofs.table.RunTable.call_at_part.Goals as goal

pub part_deciding-requires-clause-decides : goal.part_deciding-requires-clause-decides
part_deciding-requires-clause-decides g c =
    decides_at _ _ g.W.WorkerCall.before _ _ (left_by (part_from c.args.expected)) (λ word. g.W.WorkerCall.call word) (λ word. g.W.WorkerCall.after word) c.requires.tied c.requires.place

pub returns-clause-log : goal.returns-clause-log
returns-clause-log g c = (called_is _ g.W.WorkerCall.before (g.W.WorkerCall.after _) _ (g.W.WorkerCall.call _) c.part_deciding.ensures.roles).0

pub returns-clause-worker : goal.returns-clause-worker
returns-clause-worker g c = (called_is _ g.W.WorkerCall.before (g.W.WorkerCall.after _) _ (g.W.WorkerCall.call _) c.part_deciding.ensures.roles).1

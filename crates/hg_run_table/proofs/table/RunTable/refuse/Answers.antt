use Rattle.hg_run_table.proofs.WorkerSteps.{decides_refused, called_alone}
use Rattle.hg_run_table.proofs.table.RunTable.refuse.Goals as goal

pub decide-requires-clause-decides : goal.decide-requires-clause-decides
decide-requires-clause-decides g c = decides_refused _ _ _ _ c.requires.refused

pub returns-clause-log : goal.returns-clause-log
returns-clause-log g c = (called_alone _ g.W.OwnCall.before _ c.decide.ensures.roles.1).0

pub returns-clause-worker : goal.returns-clause-worker
returns-clause-worker g c = (called_alone _ g.W.OwnCall.before _ c.decide.ensures.roles.1).1

use Rattle.hg_run_table.proofs.WorkerSteps.{decides_alone, called_alone}
use Rattle.hg_run_table.proofs.table.RunTable.call_alone.Goals as goal

pub decide-requires-clause-decides : goal.decide-requires-clause-decides
decide-requires-clause-decides g c = decides_alone _ _ g.W.OwnCall.after _ _ c.requires.tied

pub returns-clause-log : goal.returns-clause-log
returns-clause-log g c = (called_alone _ g.W.OwnCall.after _ c.decide.ensures.roles.1).0

pub returns-clause-worker : goal.returns-clause-worker
returns-clause-worker g c = (called_alone _ g.W.OwnCall.after _ c.decide.ensures.roles.1).1

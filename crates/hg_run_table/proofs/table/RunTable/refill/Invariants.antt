use Rattle.hg_machine.specs.declared.Answer.TheVariants as answer
use Rattle.hg_machine.specs.declared.Event.TheVariants as event
use Rattle.hg_roles.specs.Pooling.{taken_up, without}
use Rattle.hg_roles.specs.Roles.{of_pool}
use Rattle.hg_run_table.proofs.table.RunTable.refill.Given as goal

abbrev pub ghosts-call_together-W-OwnCall : goal.ghosts-call_together-W-OwnCall
ghosts-call_together-W-OwnCall g a = record {
  before = g.P.WorkerAndPool.before;
  call = (event.Refill g.P.WorkerAndPool.arena, answer.Refilled g.P.WorkerAndPool.segment);
  after = taken_up g.P.WorkerAndPool.before g.P.WorkerAndPool.pooled g.P.WorkerAndPool.segment;
}

abbrev pub ghosts-call_together-P-OtherPart : goal.ghosts-call_together-P-OtherPart
ghosts-call_together-P-OtherPart g a = record {
  role = of_pool g.P.WorkerAndPool.pooled;
  left = of_pool (without g.P.WorkerAndPool.pooled g.P.WorkerAndPool.segment);
}

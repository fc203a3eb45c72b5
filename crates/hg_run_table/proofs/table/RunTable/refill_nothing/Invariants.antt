use Rattle.hg_machine.specs.declared.Answer.TheVariants as answer
use Rattle.hg_machine.specs.declared.Event.TheVariants as event
use Rattle.hg_roles.specs.Roles.{of_pool}
use Rattle.hg_run_table.proofs.table.RunTable.refill_nothing.Given as goal

abbrev pub ghosts-call_together-W-OwnCall : goal.ghosts-call_together-W-OwnCall
ghosts-call_together-W-OwnCall g a = record {
  before = g.P.WorkerAndPool.before;
  call = (event.Refill g.P.WorkerAndPool.arena, answer.NoSegment);
  after = g.P.WorkerAndPool.before;
}

abbrev pub ghosts-call_together-P-OtherPart : goal.ghosts-call_together-P-OtherPart
ghosts-call_together-P-OtherPart g a = record {
  role = of_pool g.P.WorkerAndPool.pooled;
  left = of_pool g.P.WorkerAndPool.pooled;
}

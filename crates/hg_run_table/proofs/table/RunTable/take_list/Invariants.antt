use Rattle.std.specs.Prelude.{[], length}
use Rattle.hg_machine.specs.declared.Answer.TheVariants as answer
use Rattle.hg_machine.specs.declared.Event.TheVariants as event
use Rattle.hg_roles.specs.Joined.{come_home}
use Rattle.hg_roles.specs.Roles.{of_remote}
use Rattle.hg_run_table.proofs.table.RunTable.take_list.Given as goal

abbrev pub ghosts-call_together-W-OwnCall : goal.ghosts-call_together-W-OwnCall
ghosts-call_together-W-OwnCall g a = record {
  before = g.L.WorkerAndList.before;
  call = (event.Take g.L.WorkerAndList.segment, answer.Taken (length g.L.WorkerAndList.sent));
  after = come_home g.L.WorkerAndList.before g.L.WorkerAndList.sent;
}

abbrev pub ghosts-call_together-P-OtherPart : goal.ghosts-call_together-P-OtherPart
ghosts-call_together-P-OtherPart g a = record {
  role = of_remote g.L.WorkerAndList.segment g.L.WorkerAndList.sent;
  left = of_remote g.L.WorkerAndList.segment [];
}

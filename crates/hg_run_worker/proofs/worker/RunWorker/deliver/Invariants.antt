use Rattle.std.specs.Prelude.{None}
use Rattle.hg_machine.specs.declared.Event.TheVariants as event
use Rattle.hg_roles.specs.Roles.{of_remote}
use Rattle.hg_run_worker.specs.AtWork.{view_in, worker_view}
use Rattle.hg_run_worker.specs.Lists.{deliver_answer, numbers_of, with_place}
use Rattle.hg_run_worker.proofs.worker.RunWorker.deliver.Given as goal

-- the worker, before and behind the call
abbrev pub ghosts-deliver_by-W-OwnCall : goal.ghosts-deliver_by-W-OwnCall
ghosts-deliver_by-W-OwnCall a = record {
  before = view_in a.self.now;
  call = (event.Deliver, deliver_answer a.self.now.hand);
  after = worker_view a.self.now.policy a.self.now.number None a.self.now.heap.segments;
}

-- and the list
abbrev pub ghosts-deliver_by-P-OtherPart : goal.ghosts-deliver_by-P-OtherPart
ghosts-deliver_by-P-OtherPart a = record {
  role = of_remote a.list.now.segment (numbers_of a.list.now.segment a.list.now.list);
  left =
      of_remote a.list.now.segment
      (with_place a.self.now.hand (numbers_of a.list.now.segment a.list.now.list));
}

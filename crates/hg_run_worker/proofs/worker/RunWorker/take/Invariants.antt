use Rattle.std.specs.Prelude.{length}
use Rattle.hg_machine.specs.declared.Event.TheVariants as event
use Rattle.hg_heap.specs.Held.{is_held}
use Rattle.hg_remote.specs.Remote.{contents}
use Rattle.hg_roles.specs.Roles.{of_remote}
use Rattle.hg_run_worker.specs.AtWork.{number_in, view_in}
use Rattle.hg_run_worker.specs.Lists.{left_places, numbers_of, take_answer, taken_view}
use Rattle.hg_run_worker.proofs.worker.RunWorker.take.Given as goal

-- the worker, before and behind the call
abbrev pub ghosts-take_by-W-OwnCall : goal.ghosts-take_by-W-OwnCall
ghosts-take_by-W-OwnCall a = record {
  before = view_in a.self.now;
  call = (
    event.Take a.list.now.segment,
    take_answer (is_held number_in a.self.now.heap.segments a.list.now.segment)
        (length (contents a.list.now.list)),
  );
  after =
      taken_view (is_held number_in a.self.now.heap.segments a.list.now.segment)
      (view_in a.self.now) (numbers_of a.list.now.segment a.list.now.list);
}

-- and the list
abbrev pub ghosts-take_by-P-OtherPart : goal.ghosts-take_by-P-OtherPart
ghosts-take_by-P-OtherPart a = record {
  role = of_remote a.list.now.segment (numbers_of a.list.now.segment a.list.now.list);
  left =
      of_remote a.list.now.segment
      (left_places (is_held number_in a.self.now.heap.segments a.list.now.segment)
      (numbers_of a.list.now.segment a.list.now.list));
}

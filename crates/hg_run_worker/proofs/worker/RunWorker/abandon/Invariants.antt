use Rattle.hg_machine.specs.declared.Event.TheVariants as event
use Rattle.hg_heap.specs.Held.{is_held, segment_in}
use Rattle.hg_heap.specs.Releasing.{without_segment}
use Rattle.hg_roles.specs.Roles.{of_pool}
use Rattle.hg_run_worker.specs.AtWork.{number_in, view_in, worker_view}
use Rattle.hg_run_worker.specs.Pools.{abandon_answer, pool_part, with_orphan}
use Rattle.hg_run_worker.proofs.worker.RunWorker.abandon.Given as goal

-- the worker, before and behind the call
abbrev pub ghosts-abandon_by-W-OwnCall : goal.ghosts-abandon_by-W-OwnCall
ghosts-abandon_by-W-OwnCall a = record {
  before = view_in a.self.now;
  call = (
    event.Abandon a.segment,
    abandon_answer (is_held number_in a.self.now.heap.segments a.segment),
  );
  after =
      worker_view a.self.now.policy a.self.now.number a.self.now.hand
      (without_segment number_in a.self.now.heap.segments a.segment);
}

-- and the pool
abbrev pub ghosts-abandon_by-P-OtherPart : goal.ghosts-abandon_by-P-OtherPart
ghosts-abandon_by-P-OtherPart a = record {
  role = of_pool (pool_part a.self.now.policy a.pool.now.pool);
  left =
      of_pool
      (pool_part a.self.now.policy
      (with_orphan (segment_in number_in a.self.now.heap.segments a.segment) a.pool.now.pool));
}

use Rattle.std.specs.Prelude.{option_map}
use Rattle.hg_machine.specs.declared.Event.TheVariants as event
use Rattle.hg_pool.specs.Pooled.{next_in}
use Rattle.hg_roles.specs.Roles.{of_pool}
use Rattle.hg_run_worker.specs.AtWork.{number_in, view_in, worker_view}
use Rattle.hg_run_worker.specs.Pools.{left_pool, pool_part, refill_answer, with_taken}
use Rattle.hg_run_worker.proofs.worker.RunWorker.refill.Given as goal

-- the worker, before and behind the call
abbrev pub ghosts-refill_by-W-OwnCall : goal.ghosts-refill_by-W-OwnCall
ghosts-refill_by-W-OwnCall a = record {
  before = view_in a.self.now;
  call = (
    event.Refill a.arena,
    refill_answer (option_map (λ one. number_in one.slots) (next_in a.pool.now.pool a.arena)),
  );
  after =
      worker_view a.self.now.policy a.self.now.number a.self.now.hand
      (with_taken (next_in a.pool.now.pool a.arena) a.self.now.heap.segments);
}

-- and the pool
abbrev pub ghosts-refill_by-P-OtherPart : goal.ghosts-refill_by-P-OtherPart
ghosts-refill_by-P-OtherPart a = record {
  role = of_pool (pool_part a.self.now.policy a.pool.now.pool);
  left =
      of_pool
      (pool_part a.self.now.policy (left_pool (next_in a.pool.now.pool a.arena) a.pool.now.pool));
}

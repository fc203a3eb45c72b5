use Rattle.std.proofs.Common.{◌≡◌, ℕ, List, ◌++◌, Some, slice_get}
use Rattle.std.specs.Vec.Iter.{into_iter_items}
use Rattle.std.specs.Arc.{arc_value}
use Rattle.atomic_table.specs.Seated.{TableId}
use Rattle.hg_roles.specs.Roles.{Role}
use Rattle.hg_run_worker.specs.declared.worker.RunWorker.{RunWorker}
use Rattle.hg_run_worker.specs.AtWork.{IsReady}
use Rattle.hg_run_worker.specs.Ending.{HasGathered}
use Rattle.hg_run_worker.specs.Service.{parts_of_workers}
use Rattle.hg_run_worker.proofs.ending.RunEnd.workers.Given as goal

-- those that are left come behind those that have left
abbrev pub invariant-loop-worker : goal.invariant-loop-worker
invariant-loop-worker l = record {
  same : l.self.seat.seat.table_id ≡ l.fn.self.seat.seat.table_id;
  ready :
      (k : ℕ) (worker : RunWorker) → slice_get (into_iter_items l.worker-iterator) k ≡ Some worker
      → IsReady worker;
  of_it :
      (k : ℕ) (worker : RunWorker) → slice_get (into_iter_items l.worker-iterator) k ≡ Some worker
      → (arc_value worker.table).table.shared.table_id ≡ (arc_value l.table).table.shared.table_id;
  gathered :
      (id : TableId) (roles : List Role) → HasGathered id roles l.fn.self
      → (so_far : List Role) × HasGathered id so_far l.self
      × (so_far ++ parts_of_workers (into_iter_items l.worker-iterator)
      ≡ roles ++ parts_of_workers l.fn.workers.items);
}

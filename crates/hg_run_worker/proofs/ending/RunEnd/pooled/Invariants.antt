use Rattle.std.proofs.Common.{◌≡◌, ℕ, ◌≤◌, List, ◌++◌}
use Rattle.atomic_table.specs.Seated.{TableId}
use Rattle.hg_heap.specs.Held.{segment_in}
use Rattle.hg_roles.specs.Roles.{Role}
use Rattle.hg_run_worker.specs.AtWork.{number_in}
use Rattle.hg_run_worker.specs.Ending.{HasGathered}
use Rattle.hg_run_worker.specs.Pools.{pooled_in}
use Rattle.hg_run_worker.proofs.Gathered.{parts_below}
use Rattle.hg_run_worker.proofs.ending.RunEnd.pooled.Given as goal

-- the parts of segments with lower numbers were given back, and the pool has the others
abbrev pub invariant-loop-segment : goal.invariant-loop-segment
invariant-loop-segment l = record {
  same : l.self.seat.seat.table_id ≡ l.fn.self.seat.seat.table_id;
  others : (other : ℕ) → l.segment ≤ other
      → segment_in number_in (pooled_in l.pool) other ≡ segment_in number_in (pooled_in l.fn.pool) other;
  gathered : (id : TableId) (roles : List Role) → HasGathered id roles l.fn.self
      → HasGathered id (roles ++ parts_below (pooled_in l.fn.pool) l.segment) l.self;
}

use Rattle.std.proofs.Common.{◌≡◌, ℕ, ◌≤◌, List, ◌++◌}
use Rattle.atomic_table.specs.Seated.{TableId}
use Rattle.hg_heap.specs.Held.{segment_in}
use Rattle.hg_roles.specs.Roles.{Role}
use Rattle.hg_run_worker.specs.AtWork.{number_in}
use Rattle.hg_run_worker.specs.Ending.{HasGathered}
use Rattle.hg_run_worker.proofs.Gathered.{parts_below}
use Rattle.hg_run_worker.proofs.ending.RunEnd.held.Given as goal

-- the parts of segments with lower numbers were given back, and the heap holds the others
abbrev pub invariant-loop-segment : goal.invariant-loop-segment
invariant-loop-segment l = record {
  same : l.self.seat.seat.table_id ≡ l.fn.self.seat.seat.table_id;
  others : (other : ℕ) → l.segment ≤ other
      → segment_in number_in l.heap.segments other ≡ segment_in number_in l.fn.heap.segments other;
  gathered : (id : TableId) (roles : List Role) → HasGathered id roles l.fn.self
      → HasGathered id (roles ++ parts_below l.fn.heap.segments l.segment) l.self;
}

use Rattle.std.proofs.Common.{◌≡◌, ℕ, length, slice_get, Some, vec_len}
use Rattle.std.specs.Arc.{arc_value}
use Rattle.hg_run_table.specs.declared.table.RunSeat.{RunSeat}
use Rattle.hg_run_table.specs.NewSeats.{IsNewSegment}
use Rattle.hg_run_worker.specs.NewPools.{HasFrom}
use Rattle.hg_run_worker.proofs.pool.RunPool.new.Given as goal

-- the segments of the seats that are left come first, and the others are in the pool
abbrev pub invariant-loop-seat : goal.invariant-loop-seat
invariant-loop-seat l = record {
  counted : l.number ≡ length l.seats.items;
  each : (k : ℕ) (seat : RunSeat) → slice_get l.seats.items k ≡ Some seat
      → IsNewSegment (arc_value l.table).table.shared.table_id k seat;
  has : HasFrom (arc_value l.table).table.shared.table_id l.policy l.number l.pool;
}

abbrev pub decreases-loop-seat : goal.decreases-loop-seat
decreases-loop-seat l = vec_len l.seats

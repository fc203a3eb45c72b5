use Rattle.std.proofs.Common.{◌≡◌, ℕ, ◌+◌, All, length, vec_len}
use Rattle.std.specs.Box.{boxed_slice_items}
use Rattle.hg_table.specs.Seats.{AreHome, KnowsNothing, part_in}
use Rattle.hg_service.specs.New.{AreAtNumbers, AreFresh}
use Rattle.hg_service.proofs.opening.fresh_pool.Given as goal

-- the segments of the seats that are left come first, and the others are in the pool
abbrev pub invariant-loop-seat : goal.invariant-loop-seat
invariant-loop-seat g l = record {
  numbers : AreAtNumbers l.seats.items;
  home : All (λ seat. AreHome (boxed_slice_items seat.inner.records)
      × KnowsNothing (part_in seat.inner.seat)) l.seats.items;
  fresh : (count : ℕ) × (length l.seats.items + count ≡ length l.policy.segments)
      × AreFresh l.policy (length l.seats.items) count l.kept.pool;
}

abbrev pub decreases-loop-seat : goal.decreases-loop-seat
decreases-loop-seat g l = vec_len l.seats

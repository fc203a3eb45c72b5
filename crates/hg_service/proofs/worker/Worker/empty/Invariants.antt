use Rattle.std.proofs.Common.{◌≡◌, ℕ, ◌<◌, false}
use Rattle.std.specs.List.{range_with_len}
use Rattle.hg_heap.specs.Held.{is_held}
use Rattle.hg_table.specs.Seats.{part_on}
use Rattle.hg_worker.specs.Seats.{number_in}
use Rattle.hg_service.specs.Behind.{Delivers}
use Rattle.hg_service.specs.Leaving.{AbandonsEach}
use Rattle.hg_service.proofs.worker.Worker.empty.Given as goal

-- the segments so far went to a pool, if they were held, and none of them is held
abbrev pub invariant-loop-segment : goal.invariant-loop-segment
invariant-loop-segment g l = record {
  sent : Delivers l.fn.self.own.inner.value.hand l.delivery l.self.own.inner.value.hand;
  abandoned :
      AbandonsEach number_in (range_with_len 0 l.segment) l.fn.self.own.inner.value.heap l.self.own.inner.value.heap;
  gone : (k : ℕ) → k < l.segment → is_held number_in l.self.own.inner.value.heap.segments k ≡ false;
  ended :
      (part_on l.self.own.inner.value.seat.badge).ended
      ≡ (part_on l.fn.self.own.inner.value.seat.badge).ended;
  policy : l.self.own.inner.value.policy ≡ l.fn.self.own.inner.value.policy;
  number : l.self.own.inner.value.number ≡ l.fn.self.own.inner.value.number;
  shared : l.self.shared ≡ l.fn.self.shared;
}

use Rattle.std.proofs.Common.{◌≡◌, ℕ, ◌-◌, ◌*◌, [], length, map, Some}
use Rattle.std.specs.List.{range_with_len, slice_get}
use Rattle.hg_place.specs.declared.geometry.TheConstants.{SEGMENT_PLACES}
use Rattle.hg_roles.specs.Roles.{of_segment}
use Rattle.hg_table.specs.Seats.{IsInitial}
use Rattle.hg_run_table.specs.NewSeats.{IsNewSegment}
use Rattle.hg_run_table.specs.Seated.{HaveRoles}
use Rattle.hg_run_table.proofs.table.RunTable.segment_seats.Given as goal

abbrev pub invariant-loop : goal.invariant-loop
invariant-loop l = record {
  same : l.lives.seat.table_id ≡ l.fn.lives.seat.table_id;
  same_parts : l.parts.seat.table_id ≡ l.fn.parts.seat.table_id;
  none : HaveRoles l.lives.seat.me.0.run [];
  bare : l.parts.seat.me.0.lives ≡ [];
  initial : IsInitial l.counter ((l.count - l.counter) * SEGMENT_PLACES) l.lives.seat.me.0.lives;
  roles : HaveRoles l.parts.seat.me.0.run (map of_segment (range_with_len l.counter (l.count - l.counter)));
  many : length l.seats.items ≡ l.counter;
  each : (k : ℕ) (seat : _) → slice_get l.seats.items k ≡ Some seat → IsNewSegment l.self.table.shared.table_id k seat;
}

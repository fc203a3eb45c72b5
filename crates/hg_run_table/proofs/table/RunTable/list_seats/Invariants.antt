use Rattle.std.proofs.Common.{◌≡◌, ℕ, ◌-◌, List, [], ◌++◌, length, map, Some}
use Rattle.std.specs.List.{range_with_len, slice_get}
use Rattle.hg_roles.specs.Roles.{Role, of_remote}
use Rattle.hg_run_table.specs.NewSeats.{IsNewOther}
use Rattle.hg_run_table.specs.Seated.{HaveRoles}
use Rattle.hg_run_table.proofs.table.RunTable.list_seats.Given as goal

abbrev pub invariant-loop : goal.invariant-loop
invariant-loop l = record {
  same : l.parts.seat.table_id ≡ l.fn.parts.seat.table_id;
  bare : l.parts.seat.me.0.lives ≡ [];
  many : length l.seats.items ≡ l.counter;
  roles :
      (rest : List Role) → HaveRoles l.fn.parts.seat.me.0.run (map (λ segment. of_remote segment []) (range_with_len 0 l.count) ++ rest)
      → HaveRoles l.parts.seat.me.0.run (map (λ segment. of_remote segment []) (range_with_len l.counter (l.count - l.counter)) ++ rest)
      × ((k : ℕ) (seat : _) → slice_get l.seats.items k ≡ Some seat → IsNewOther l.self.table.shared.table_id (of_remote k []) seat);
}

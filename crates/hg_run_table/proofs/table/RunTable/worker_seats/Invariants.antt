use Rattle.std.proofs.Common.{◌≡◌, ℕ, ◌-◌, ◌≤◌, List, [], ◌∷◌, ◌++◌, length, map, Some}
use Rattle.std.specs.List.{range_with_len, slice_get}
use Rattle.hg_roles.specs.Roles.{Role}
use Rattle.hg_table.specs.View.{part_of}
use Rattle.hg_run_table.specs.NewSeats.{IsNewWorker, new_worker}
use Rattle.hg_run_table.specs.Seated.{HaveRoles}
use Rattle.hg_run_table.proofs.table.RunTable.worker_seats.Given as goal

abbrev pub invariant-loop : goal.invariant-loop
invariant-loop l = record {
  same : l.lives.seat.table_id ≡ l.fn.lives.seat.table_id;
  same_parts : l.parts.seat.table_id ≡ l.fn.parts.seat.table_id;
  none : HaveRoles l.lives.seat.me.0.run [];
  bare : l.parts.seat.me.0.lives ≡ [];
  one : l.lives.seat.me.0.lives ≡ part_of l.lives.seat.me.0.lives ∷ [];
  left : l.count - l.counter ≤ (part_of l.lives.seat.me.0.lives).may_give;
  many : length l.seats.items ≡ l.counter;
  roles :
      (rest : List Role) → HaveRoles l.fn.parts.seat.me.0.run (map (new_worker l.self.table.shared.key) (range_with_len 0 l.count) ++ rest)
      → HaveRoles l.parts.seat.me.0.run (map (new_worker l.self.table.shared.key) (range_with_len l.counter (l.count - l.counter)) ++ rest)
      × ((k : ℕ) (seat : _) → slice_get l.seats.items k ≡ Some seat → IsNewWorker l.self.table.shared.key l.self.table.shared.table_id k seat);
}

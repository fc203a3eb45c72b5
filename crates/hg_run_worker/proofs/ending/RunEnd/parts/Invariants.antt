use Rattle.std.proofs.Common.{◌≡◌, ℕ, List, ◌++◌, Some, slice_get}
use Rattle.std.specs.Vec.Iter.{into_iter_items}
use Rattle.std.specs.Arc.{arc_value}
use Rattle.std.specs.List.{AllZip}
use Rattle.atomic_table.specs.Seated.{TableId}
use Rattle.hg_roles.specs.Roles.{Role}
use Rattle.hg_run_table.specs.declared.table.RunSeat.{RunSeat}
use Rattle.hg_run_table.specs.JoinedCalls.{IsOthers}
use Rattle.hg_run_worker.specs.Ending.{HasGathered}
use Rattle.hg_run_worker.proofs.ending.RunEnd.parts.Given as goal

-- the roles of the seats that are left come behind those of the parts that were given back
abbrev pub invariant-loop-seat : goal.invariant-loop-seat
invariant-loop-seat l = record {
  same : l.self.seat.seat.table_id ≡ l.fn.self.seat.seat.table_id;
  of_it :
      (k : ℕ) (seat : RunSeat) → slice_get (into_iter_items l.seat-iterator) k ≡ Some seat
      → seat.seat.table_id ≡ (arc_value l.table).table.shared.table_id;
  gathered :
      (id : TableId) (roles theirs : List Role) → HasGathered id roles l.fn.self
      → AllZip IsOthers l.fn.seats.items theirs
      → (so_far : List Role) × (rest : List Role) × HasGathered id so_far l.self
      × AllZip IsOthers (into_iter_items l.seat-iterator) rest × (so_far ++ rest ≡ roles ++ theirs);
}

use Rattle.std.proofs.Common.{◌≡◌, ℕ, ◌+◌, ◌<◌, slice_index_or, ◌-◌, ◌*◌, [], ◌∷◌, length, All}
use Rattle.std.specs.Box.{boxed_slice_items}
use Rattle.hg_place.specs.declared.geometry.TheConstants.{SEGMENT_PLACES}
use Rattle.hg_table.specs.View.{part_of, SEATS_TO_GIVE}
use Rattle.hg_table.specs.Seats.{IsInitial, AreHome, KnowsNothing, part_in, part_on}
use Rattle.hg_table.proofs.life_table.LifeTable.open.Given as goal

abbrev pub invariant-loop-segment : goal.invariant-loop-segment
invariant-loop-segment g l = record {
  named : l.giver.table_id ≡ l.fn.self.initial.table_id;
  bare : l.giver.me.1 ≡ [];
  left : IsInitial l.segment ((l.fn.self.segments - l.segment) * SEGMENT_PLACES) l.giver.me.0;
  count : length l.segments.items ≡ l.segment;
  numbers : (k : ℕ) (d : _) → k < length l.segments.items → (slice_index_or l.segments.items k d).inner.segment ≡ k;
  home : All (λ seat. AreHome (boxed_slice_items seat.inner.records) × KnowsNothing (part_in seat.inner.seat)) l.segments.items;
}

abbrev pub invariant-loop : goal.invariant-loop
invariant-loop g l = record {
  named : l.giver.table_id ≡ l.fn.self.initial.table_id;
  one : l.giver.me.0 ≡ part_of l.giver.me.0 ∷ [];
  left : (part_of l.giver.me.0).may_give + l.fn.self.segments + l.counter ≡ SEATS_TO_GIVE;
  count : length l.workers.items ≡ l.counter;
  nothing : All (λ seat. KnowsNothing (part_on seat.inner.badge)) l.workers.items;
}

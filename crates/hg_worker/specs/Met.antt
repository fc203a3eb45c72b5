-- Two workers that have met at a place.
use Rattle.std.specs.Prelude.{◌≡◌, ℕ, List, [], Option, Some}
use mathlib.Core.Option.{some}
use lib.ListN.{get_elem?}
use Rattle.hg_place.specs.declared.Handle.{Handle}
use Rattle.hg_place.specs.declared.Place.{Place}
use Rattle.hg_place.specs.declared.standing.Standing.{Standing}
use Rattle.hg_segment.specs.Kept.{Kept}
use Rattle.hg_heap.specs.Held.{Held}
use Rattle.hg_heap.specs.Keeping.{rest_of, KeepsAll}
use Rattle.hg_table.specs.declared.view.Part.{Part}
use Rattle.hg_table.specs.Seats.{HaveMet}
use Rattle.hg_worker.specs.Had.{Had}
use Rattle.hg_worker.specs.Seen.{word_of, part_for, Decided, StepsWithin}

module _ {S : Type 0} (number : S → ℕ) (part : S → Part) where
  -- each has seen the word, by its seat for the place; it is at or after all that either has seen
  -- there; neither has ended anything more, nor looked twice, and no life of the place was ended by
  -- both
  pub record HaveMetAt (place : Place) (word : ℕ) (one other one' other' : Had S) : Type 0 where
    pub step : Decided number part place word word [] one one'
    pub step_other : Decided number part place word word [] other other'
    pub once : StepsWithin number part 1 place one one'
    pub once_other : StepsWithin number part 1 place other other'
    pub apart :
        (k l generation : ℕ)
        → get_elem? (part_for number part one place).ended k ≡ some (word_of place, generation)
        → get_elem? (part_for number part other place).ended l ≡ some (word_of place, generation)
        → ⊥

module _ {S : Type 0} (numbered : S → ℕ) (records : S → List Standing) where
  -- the heap has the same segments in the same order, but for what their seats know
  abbrev pub KeepsHeap : Held S → Held S → Type 0
  KeepsHeap old new =
      KeepsAll numbered records old.segments new.segments × (new.queues ≡ old.queues)

  -- A segment comes to a worker with this in hand. Where that is of one of its places, the seats of
  -- the segment and of the worker meet there; else they are as they were. Nothing else of the
  -- segment changes
  pub record ComesTo (part : S → Part) (hand : Option Handle) (one one' : Kept S) (own own' : Part)
      : Type 0 where
    pub rest : rest_of numbered records one' ≡ rest_of numbered records one
    pub met :
        (handle : Handle) → hand ≡ Some handle → handle.place.segment ≡ numbered one.slots
        → (word : ℕ)
        × HaveMet (word_of handle.place) word (part one.slots) own (part one'.slots) own'
    pub apart :
        ((handle : Handle) → hand ≡ Some handle → handle.place.segment ≡ numbered one.slots → ⊥)
        → (one' ≡ one) × (own' ≡ own)

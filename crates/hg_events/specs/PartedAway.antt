-- A Free of a block of a segment that the worker doesn't hold: it is parted, and in the worker's
-- hand.
use Rattle.std.specs.Prelude.{◌≡◌, ℕ, Some, None, slice_index_or, slice_set}
use Rattle.hg_place.specs.declared.Actor.{Actor}
use Rattle.hg_place.specs.declared.Handle.{Handle}
use Rattle.hg_place.specs.declared.Place.{Place}
use Rattle.hg_place.specs.declared.Right.TheVariants as right
use Rattle.hg_place.specs.declared.plain.PlainWords.{PlainWords}
use Rattle.hg_place.specs.Places.{number_of}
use Rattle.hg_pool.specs.Pooled.{Pooled}
use Rattle.hg_pool.specs.Parting.{PartedIn as PartedInPool}
use Rattle.hg_heap.specs.Held.{Held}
use Rattle.hg_heap.specs.Parting.{PartedIn as PartedInHeap}
use Rattle.hg_heap.specs.Reading.{use_denial}
use Rattle.hg_machine.specs.declared.Answer.TheVariants as answer
use Rattle.hg_machine.specs.declared.Event.TheVariants as event
use Rattle.hg_machine.specs.SoundPolicy.{IsSoundPolicy}
use Rattle.hg_parts.specs.Tidy.{IsTidy}
use Rattle.hg_events.specs.Core.{Core, parts_of, heap_of}
use Rattle.hg_events.specs.Own.{with_heap, IsServedBy}
use Rattle.hg_events.specs.Elsewhere.{IsAway}

-- the core with the place in the worker's hand
abbrev pub with_in_hand : Core → ℕ → Place → Core
with_in_hand core worker place =
    record core { hands = slice_set core.hands worker (Some (number_of place)) }

-- the core with this pool
abbrev pub with_pool : Core → Pooled PlainWords → Core
with_pool core pool = record core { pool = pool }

-- the worker's heap hasn't the segment, by this word of the place no rule denies the Free, and the
-- worker's hand is empty
pub record MayPart (core : Core) (worker : ℕ) (actor : Actor) (handle : Handle) (word : ℕ)
    : Type 0 where
  pub away : IsAway core worker handle.place.segment
  pub undenied : use_denial core.policy actor.0 right.Free handle word ≡ None
  pub empty : slice_index_or core.hands worker None ≡ None

-- once another worker's heap has parted the block of that word, and the place is in the worker's
-- hand, that was a Free, answered Parted
abbrev pub FreeIsPartedInHeap : Type 0
FreeIsPartedInHeap =
    (core : Core) (worker : ℕ) (actor : Actor) (handle : Handle) (word other : ℕ)
    (heap : Held PlainWords) → IsSoundPolicy core.policy → IsTidy (parts_of core)
    → MayPart core worker actor handle word
    → PartedInHeap handle.place word (heap_of core other).segments heap.segments
    → IsServedBy core worker (event.Free actor handle) answer.Parted
    (with_in_hand (with_heap core other heap) worker handle.place)

-- and so it was where the pool has
abbrev pub FreeIsPartedInPool : Type 0
FreeIsPartedInPool =
    (core : Core) (worker : ℕ) (actor : Actor) (handle : Handle) (word : ℕ)
    (pool : Pooled PlainWords) → IsSoundPolicy core.policy → IsTidy (parts_of core)
    → MayPart core worker actor handle word
    → PartedInPool handle.place word core.pool pool
    → IsServedBy core worker (event.Free actor handle) answer.Parted
    (with_in_hand (with_pool core pool) worker handle.place)

-- A Free of a block of a segment that the worker doesn't hold, as a step with its choices.
use Rattle.std.specs.Prelude.{◌≡◌, ℕ}
use Rattle.hg_place.specs.declared.Actor.{Actor}
use Rattle.hg_place.specs.declared.Handle.{Handle}
use Rattle.hg_place.specs.declared.plain.PlainWords.{PlainWords}
use Rattle.hg_pool.specs.Pooled.{Pooled}
use Rattle.hg_pool.specs.Parting.{PartedIn as PartedInPool}
use Rattle.hg_heap.specs.Held.{Held}
use Rattle.hg_heap.specs.Parting.{PartedIn as PartedInHeap}
use Rattle.hg_machine.specs.declared.Answer.TheVariants as answer
use Rattle.hg_machine.specs.declared.Event.TheVariants as event
use Rattle.hg_machine.specs.SoundPolicy.{IsSoundPolicy}
use Rattle.hg_parts.specs.Tidy.{IsTidy}
use Rattle.hg_events.specs.Core.{Core, parts_of, heap_of}
use Rattle.hg_events.specs.Own.{with_heap}
use Rattle.hg_events.specs.PartedAway.{MayPart, with_in_hand, with_pool}
use Rattle.hg_chosen.specs.Chosen.{IsChosenBy}

-- another worker's heap has parted the block and has the same queues, and the place is in the
-- worker's hand
abbrev pub PartedInHeapIsChosen : Type 0
PartedInHeapIsChosen =
    (core : Core) (worker : ℕ) (actor : Actor) (handle : Handle) (word other : ℕ)
    (heap : Held PlainWords) → IsSoundPolicy core.policy → IsTidy (parts_of core)
    → MayPart core worker actor handle word
    → PartedInHeap handle.place word (heap_of core other).segments heap.segments
    → heap.queues ≡ (heap_of core other).queues
    → IsChosenBy core worker (event.Free actor handle) answer.Parted
    (with_in_hand (with_heap core other heap) worker handle.place)

-- or the pool has parted it
abbrev pub PartedInPoolIsChosen : Type 0
PartedInPoolIsChosen =
    (core : Core) (worker : ℕ) (actor : Actor) (handle : Handle) (word : ℕ)
    (pool : Pooled PlainWords) → IsSoundPolicy core.policy → IsTidy (parts_of core)
    → MayPart core worker actor handle word
    → PartedInPool handle.place word core.pool pool
    → IsChosenBy core worker (event.Free actor handle) answer.Parted
    (with_in_hand (with_pool core pool) worker handle.place)

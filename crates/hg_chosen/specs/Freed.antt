-- A Free of a block that the worker holds, as a step with its choices.
use Rattle.std.specs.Prelude.{◌≡◌, ℕ, ◌-◌, ◌==◌, Some}
use Rattle.hg_place.specs.declared.Actor.{Actor}
use Rattle.hg_place.specs.declared.Handle.{Handle}
use Rattle.hg_place.specs.declared.plain.PlainWords.{PlainWords}
use Rattle.hg_place.specs.Lives.{IsLiveWord}
use Rattle.hg_place.specs.Places.{page_number}
use Rattle.hg_segment.specs.Parted.{plain_number}
use Rattle.hg_heap.specs.Held.{Held, lists_on, has_place, greatest_in}
use Rattle.hg_heap.specs.Lists.{CameHome}
use Rattle.hg_heap.specs.Queues.{key_on}
use Rattle.hg_heap.specs.Requeued.{requeued}
use Rattle.hg_machine.specs.declared.Answer.TheVariants as answer
use Rattle.hg_machine.specs.declared.Event.TheVariants as event
use Rattle.hg_machine.specs.SoundPolicy.{IsSoundPolicy}
use Rattle.hg_parts.specs.Tidy.{IsTidy}
use Rattle.hg_events.specs.Core.{Core, parts_of, heap_of}
use Rattle.hg_events.specs.Own.{with_heap, IsOwnCall}
use Rattle.hg_chosen.specs.Chosen.{IsChosenBy}

-- what `Heap::free_here` tells of the heap that it leaves where it frees the block, by its clauses
-- `lists` and `queues`: the place is home, and its page stands in the queue where it belongs
pub record IsFreed (handle : Handle) (old new : Held PlainWords) : Type 0 where
  pub lists :
      CameHome plain_number
      (handle.generation == greatest_in plain_number old.segments handle.place.segment)
      (page_number handle.place) handle.place.index old.segments new.segments
  pub queues :
      (key : ℕ)
      × (key_on plain_number old.segments (page_number handle.place) ≡ Some key)
      × (new.queues
      ≡ requeued key (page_number handle.place)
      (has_place (lists_on plain_number new.segments (page_number handle.place)))
      old.queues)

-- so such a step on the worker's own heap, which ended the life of a live word, is one with its
-- choices
abbrev pub FreeIsChosen : Type 0
FreeIsChosen =
    (core : Core) (worker : ℕ) (actor : Actor) (handle : Handle) (word : ℕ)
    (heap : Held PlainWords) → IsSoundPolicy core.policy → IsTidy (parts_of core)
    → IsLiveWord word
    → IsOwnCall core worker handle.place word (word - 1) (event.Free actor handle) answer.Done heap
    → IsFreed handle (heap_of core worker) heap
    → IsChosenBy core worker (event.Free actor handle) answer.Done (with_heap core worker heap)

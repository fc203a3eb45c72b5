-- An Alloc that gives a block, as a step with its choices.
use Rattle.std.specs.Prelude.{◌≡◌, ℕ, ◌<◌, length, Some}
use Rattle.hg_place.specs.declared.Actor.{Actor}
use Rattle.hg_place.specs.declared.Handle.{Handle}
use Rattle.hg_place.specs.declared.plain.PlainWords.{PlainWords}
use Rattle.hg_place.specs.Places.{number_of, page_number}
use Rattle.hg_place.specs.Plain.{plain_records}
use Rattle.hg_size.specs.Sizes.{number_of_size}
use Rattle.hg_size.specs.SizeLaws.{key_of}
use Rattle.hg_segment.specs.Parted.{plain_number}
use Rattle.hg_heap.specs.Held.{Held, lists_on, has_place}
use Rattle.hg_heap.specs.Choice.{chosen_place as chosen_in}
use Rattle.hg_heap.specs.Lists.{GivenOut}
use Rattle.hg_heap.specs.Requeued.{requeued}
use Rattle.hg_machine.specs.declared.Event.TheVariants as event
use Rattle.hg_machine.specs.declared.Answer.TheVariants as answer
use Rattle.hg_machine.specs.SoundPolicy.{IsSoundPolicy}
use Rattle.hg_machine.specs.Request.{size_of}
use Rattle.hg_parts.specs.Tidy.{IsTidy}
use Rattle.hg_events.specs.Core.{Core, parts_of, heap_of}
use Rattle.hg_events.specs.Own.{with_heap, IsServedBy}
use Rattle.hg_chosen.specs.Choice.{IsHeapSettled}
use Rattle.hg_chosen.specs.Chosen.{IsChosenBy}

-- what `Heap::alloc` says of its choice, and left of lists and queues, by its clauses `chosen`,
-- `lists` and `queues`
pub record IsGiven (old new : Held PlainWords) (arena size : ℕ) (handle : Handle) : Type 0 where
  pub chosen :
      chosen_in plain_number plain_records old arena size ≡ Some (number_of handle.place)
  pub lists :
      GivenOut plain_number plain_records arena size (page_number handle.place)
      handle.place.index old.segments new.segments
  pub queues :
      new.queues
      ≡ requeued (key_of arena (number_of_size size)) (page_number handle.place)
      (has_place (lists_on plain_number new.segments (page_number handle.place))) old.queues

-- an Alloc that gives a block is a step with its choices
abbrev pub AllocIsChosen : Type 0
AllocIsChosen =
    (core : Core) (worker : ℕ) (actor : Actor) (arena bytes : ℕ) (handle : Handle)
    (heap : Held PlainWords) → IsSoundPolicy core.policy → IsTidy (parts_of core)
    → worker < length core.heaps → IsHeapSettled (heap_of core worker)
    → IsServedBy core worker (event.Alloc actor arena bytes) (answer.Block handle)
    (with_heap core worker heap)
    → IsGiven (heap_of core worker) heap arena (size_of bytes) handle
    → IsChosenBy core worker (event.Alloc actor arena bytes) (answer.Block handle)
    (with_heap core worker heap)

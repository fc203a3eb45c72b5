-- A Refill: the lists stay, and the pages of the segment stand in front of the worker's queues.
use Rattle.std.specs.Prelude.{◌≡◌, ℕ, ◌<◌, ◌++◌, length, reverse}
use Rattle.hg_place.specs.declared.plain.PlainWords.{PlainWords}
use Rattle.hg_queue.specs.Queues.{queue_of, AreQueues}
use Rattle.hg_segment.specs.Kept.{Kept}
use Rattle.hg_segment.specs.Parted.{plain_number}
use Rattle.hg_pool.specs.Pooled.{Pooled}
use Rattle.hg_heap.specs.Held.{Held}
use Rattle.hg_heap.specs.Entering.{pages_of_key}
use Rattle.hg_machine.specs.declared.Event.TheVariants as event
use Rattle.hg_machine.specs.declared.Answer.TheVariants as answer
use Rattle.hg_parts.specs.Tidy.{IsTidy}
use Rattle.hg_events.specs.Core.{Core, parts_of, heap_of}
use Rattle.hg_events.specs.Refill.{with_refill, IsRefill}
use Rattle.hg_chosen.specs.Chosen.{IsChosenBy}

-- what `Heap::adopt` left of the queues, by its clause `queues`; before and after there is one for
-- each key, as `Heap::settled` says
pub record AreEntered (one : Kept PlainWords) (old new : Held PlainWords) : Type 0 where
  pub queues :
      (key : ℕ)
      → queue_of new.queues key
      ≡ reverse (pages_of_key plain_number one key) ++ queue_of old.queues key
  pub before : AreQueues old.queues
  pub after : AreQueues new.queues

-- once the pool's next segment of the arena has come to the heap, that was a Refill with its
-- choices
abbrev pub RefillIsChosen : Type 0
RefillIsChosen =
    (core : Core) (worker arena : ℕ) (one : Kept PlainWords) (held : Held PlainWords)
    (pool : Pooled PlainWords) → IsTidy (parts_of core) → worker < length core.heaps
    → IsRefill core worker arena one held pool → AreEntered one (heap_of core worker) held
    → IsChosenBy core worker (event.Refill arena) (answer.Refilled (plain_number one.slots))
    (with_refill core worker held pool)

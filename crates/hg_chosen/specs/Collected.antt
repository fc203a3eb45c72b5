-- A Collect: the idle pages of the worker's heap have empty lists, and stand in no queue.
use Rattle.std.specs.Prelude.{ℕ, ◌<◌, length}
use Rattle.hg_place.specs.declared.plain.PlainWords.{PlainWords}
use Rattle.hg_place.specs.Plain.{plain_records}
use Rattle.hg_segment.specs.Parted.{plain_number}
use Rattle.hg_heap.specs.Held.{Held}
use Rattle.hg_heap.specs.Idle.{IdleAreOut}
use Rattle.hg_machine.specs.declared.Event.TheVariants as event
use Rattle.hg_machine.specs.declared.Answer.TheVariants as answer
use Rattle.hg_machine.specs.SoundPolicy.{IsSoundPolicy}
use Rattle.hg_parts.specs.Tidy.{IsTidy}
use Rattle.hg_events.specs.Core.{Core, parts_of, heap_of}
use Rattle.hg_events.specs.Collects.{with_collected, IsCollected}
use Rattle.hg_chosen.specs.Chosen.{IsChosenBy}

-- what `Heap::collect` answered and left, by its clause `out` of lists and queues too, is a Collect
-- with its choices
abbrev pub CollectIsChosen : Type 0
CollectIsChosen =
    (core : Core) (worker : ℕ) (heap : Held PlainWords) (count : ℕ) → IsSoundPolicy core.policy
    → IsTidy (parts_of core) → worker < length core.heaps
    → IsCollected (heap_of core worker) heap count
    → IdleAreOut plain_number plain_records (heap_of core worker) heap
    → IsChosenBy core worker event.Collect (answer.Pages count)
    (with_collected core worker heap)

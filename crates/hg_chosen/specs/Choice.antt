-- The order of choice of a worker's heap is that of what its core is seen as.
use Rattle.std.specs.Prelude.{◌≡◌, ℕ, ◌<◌, length, Contains}
use Rattle.hg_place.specs.declared.plain.PlainWords.{PlainWords}
use Rattle.hg_place.specs.Plain.{plain_records}
use Rattle.hg_size.specs.Sizes.{sizes}
use Rattle.hg_segment.specs.Kept.{Kept}
use Rattle.hg_segment.specs.Settled.{IsSettled}
use Rattle.hg_segment.specs.Parted.{plain_number}
use Rattle.hg_heap.specs.Held.{Held}
use Rattle.hg_heap.specs.Queues.{AreQueued}
use Rattle.hg_heap.specs.Choice.{chosen_place as chosen_in}
use Rattle.hg_machine.specs.SoundPolicy.{IsSoundPolicy}
use Rattle.hg_agreement.specs.Parts.{kept_of}
use Rattle.hg_parts.specs.Tidy.{IsTidy}
use Rattle.hg_choice.specs.Choice.{chosen_place}
use Rattle.hg_events.specs.Core.{Core, parts_of, heap_of}

-- what `Heap::settled` says of a heap: each segment is settled, and each page that has a place to
-- give out stands in the queue of its key
pub record IsHeapSettled (held : Held PlainWords) : Type 0 where
  pub each : (k : Kept PlainWords) → Contains held.segments k → IsSettled plain_records k
  pub queued : AreQueued plain_number held

-- what the worker's heap gives out next is what a run with its choices does
abbrev pub ChoiceIsTold : Type 0
ChoiceIsTold =
    (core : Core) (worker arena size : ℕ) → IsSoundPolicy core.policy → IsTidy (parts_of core)
    → worker < length core.heaps → IsHeapSettled (heap_of core worker) → Contains sizes size
    → chosen_place (kept_of (parts_of core)) worker arena size
    ≡ chosen_in plain_number plain_records (heap_of core worker) arena size

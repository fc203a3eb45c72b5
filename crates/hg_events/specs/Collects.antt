-- A Collect of a core.
use Rattle.std.specs.Prelude.{◌≡◌, ℕ, ◌<◌, length, Contains, slice_set}
use Rattle.hg_place.specs.declared.plain.PlainWords.{PlainWords}
use Rattle.hg_place.specs.Plain.{plain_records}
use Rattle.hg_segment.specs.Kept.{Kept}
use Rattle.hg_segment.specs.Parted.{plain_number}
use Rattle.hg_heap.specs.Held.{Held}
use Rattle.hg_heap.specs.Idle.{idle_pages, Collected}
use Rattle.hg_heap.specs.Settled.{IsSettled}
use Rattle.hg_machine.specs.declared.Event.TheVariants as event
use Rattle.hg_machine.specs.declared.Answer.TheVariants as answer
use Rattle.hg_machine.specs.SoundPolicy.{IsSoundPolicy}
use Rattle.hg_machine.specs.Steps.{Step}
use Rattle.hg_agreement.specs.Parts.{state_of}
use Rattle.hg_parts.specs.Tidy.{IsTidy}
use Rattle.hg_events.specs.Core.{Core, parts_of, heap_of}

-- the core with this heap for the worker
abbrev pub with_collected : Core → ℕ → Held PlainWords → Core
with_collected core worker heap = record core { heaps = slice_set core.heaps worker heap }

-- what `Heap::collect` answered and left, by its clauses `pages` and `collected`: so many pages had
-- a class and no open place; they have lost it, and nothing else of a segment has changed but
-- lists; and each segment is settled
pub record IsCollected (old new : Held PlainWords) (count : ℕ) : Type 0 where
  pub pages : count ≡ idle_pages plain_number plain_records old.segments
  pub collected : Collected plain_number plain_records old new
  pub settled : (k : Kept PlainWords) → Contains new.segments k → IsSettled plain_records k

-- collecting the worker's heap is a Collect, answered by that number, and parts stay tidy
abbrev pub CollectIsStep : Type 0
CollectIsStep =
    (core : Core) (worker : ℕ) (heap : Held PlainWords) (count : ℕ) → IsSoundPolicy core.policy
    → IsTidy (parts_of core) → worker < length core.heaps
    → IsCollected (heap_of core worker) heap count
    → Step (state_of (parts_of core)) worker event.Collect (answer.Pages count)
    (state_of (parts_of (with_collected core worker heap)))
    × IsTidy (parts_of (with_collected core worker heap))

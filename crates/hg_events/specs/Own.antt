-- A call of a worker on its own heap: one step at a place of a segment that it holds.
use Rattle.std.specs.Prelude.{ℕ, ◌<◌, length, Option, Result, Contains, slice_set}
use Rattle.hg_place.specs.declared.Actor.{Actor}
use Rattle.hg_place.specs.declared.Place.{Place}
use Rattle.hg_place.specs.declared.Handle.{Handle}
use Rattle.hg_place.specs.declared.plain.PlainWords.{PlainWords}
use Rattle.hg_place.specs.Plain.{plain_records}
use Rattle.hg_segment.specs.Kept.{Kept}
use Rattle.hg_segment.specs.Settled.{IsSettled}
use Rattle.hg_segment.specs.Parted.{plain_number}
use Rattle.hg_heap.specs.declared.refused.Refused.{Refused}
use Rattle.hg_heap.specs.Held.{Held}
use Rattle.hg_heap.specs.Ties.{Stepped, HeapTies, shown_at}
use Rattle.hg_heap.specs.Answers.{read_answer, done_answer, row_answer, list_denial}
use Rattle.hg_machine.specs.declared.Event.{Event}
use Rattle.hg_machine.specs.declared.Event.TheVariants as event
use Rattle.hg_machine.specs.declared.Answer.{Answer}
use Rattle.hg_machine.specs.declared.Answer.TheVariants as answer
use Rattle.hg_machine.specs.declared.Row.{Row}
use Rattle.hg_machine.specs.declared.Rule.{Rule}
use Rattle.hg_machine.specs.SoundPolicy.{IsSoundPolicy}
use Rattle.hg_machine.specs.Steps.{Step}
use Rattle.hg_agreement.specs.Parts.{state_of}
use Rattle.hg_parts.specs.Tidy.{IsTidy}
use Rattle.hg_events.specs.Core.{Core, parts_of, heap_of}
use Rattle.hg_events.specs.Take.{plain_shows, plain_steps}

-- the core with this heap for the worker
abbrev pub with_heap : Core → ℕ → Held PlainWords → Core
with_heap core worker heap = record core { heaps = slice_set core.heaps worker heap }

-- one step at the place showed the one word and left the other; the heap that comes in place of the
-- worker's ties the event and its answer to the machine, and each of its segments is settled
pub record IsOwnCall (core : Core) (worker : ℕ) (place : Place) (word left : ℕ) (event : Event)
    (answer : Answer) (heap : Held PlainWords) : Type 0 where
  pub below : worker < length core.heaps
  pub stepped :
      Stepped plain_number plain_shows plain_steps place word left
      (heap_of core worker).segments heap.segments
  pub ties :
      HeapTies plain_number plain_records core.policy (shown_at place word) (shown_at place left)
      event answer (heap_of core worker).segments heap.segments
  pub settled : (k : Kept PlainWords) → Contains heap.segments k → IsSettled plain_records k

-- the worker's event and this answer are a step of the machine to the state of the new core, whose
-- parts are tidy
abbrev pub IsServedBy : Core → ℕ → Event → Answer → Core → Type 0
IsServedBy core worker event answer new =
    Step (state_of (parts_of core)) worker event answer (state_of (parts_of new))
    × IsTidy (parts_of new)

-- so a call on the worker's own heap serves its event, from tidy parts under a sound policy
abbrev pub OwnCallServes
    : Core → ℕ → Place → ℕ → ℕ → Event → Answer → Held PlainWords → Type 0
OwnCallServes core worker place word left event answer heap =
    IsSoundPolicy core.policy → IsTidy (parts_of core)
    → IsOwnCall core worker place word left event answer heap
    → IsServedBy core worker event answer (with_heap core worker heap)

-- whatever a read of a block answers, by a step that left the word that it showed
abbrev pub ReadIsStep : Type 0
ReadIsStep =
    (core : Core) (worker : ℕ) (actor : Actor) (handle : Handle) (index word : ℕ)
    (result : Result ℕ Refused) (heap : Held PlainWords)
    → OwnCallServes core worker handle.place word word (event.Read actor handle index)
    (read_answer result) heap

-- and a write
abbrev pub WriteIsStep : Type 0
WriteIsStep =
    (core : Core) (worker : ℕ) (actor : Actor) (handle : Handle) (index value word : ℕ)
    (result : Result (Unit {0}) Refused) (heap : Held PlainWords)
    → OwnCallServes core worker handle.place word word (event.Write actor handle index value)
    (done_answer result) heap

-- and a look at a place
abbrev pub LookIsStep : Type 0
LookIsStep =
    (core : Core) (worker : ℕ) (actor : Actor) (place : Place) (word : ℕ) (row : Option Row)
    (heap : Held PlainWords)
    → OwnCallServes core worker place word word (event.Look actor place)
    (row_answer row (list_denial core.policy actor place word)) heap

-- and a free of a block that is denied
abbrev pub FreeIsDenied : Type 0
FreeIsDenied =
    (core : Core) (worker : ℕ) (actor : Actor) (handle : Handle) (word : ℕ) (rule : Rule)
    (heap : Held PlainWords)
    → OwnCallServes core worker handle.place word word (event.Free actor handle)
    (answer.Denied rule) heap

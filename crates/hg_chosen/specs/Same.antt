-- Calls of a worker on its own heap that leave all lists and queues as they were.
use Rattle.std.specs.Prelude.{◌≡◌, ℕ, Option, Result}
use Rattle.hg_place.specs.declared.Actor.{Actor}
use Rattle.hg_place.specs.declared.Handle.{Handle}
use Rattle.hg_place.specs.declared.Place.{Place}
use Rattle.hg_place.specs.declared.plain.PlainWords.{PlainWords}
use Rattle.hg_segment.specs.Parted.{plain_number}
use Rattle.hg_heap.specs.declared.refused.Refused.{Refused}
use Rattle.hg_heap.specs.Answers.{read_answer, done_answer, row_answer, list_denial}
use Rattle.hg_heap.specs.Held.{Held, KeepsLists}
use Rattle.hg_machine.specs.declared.Answer.{Answer}
use Rattle.hg_machine.specs.declared.Answer.TheVariants as answer
use Rattle.hg_machine.specs.declared.Event.{Event}
use Rattle.hg_machine.specs.declared.Event.TheVariants as event
use Rattle.hg_machine.specs.declared.Row.{Row}
use Rattle.hg_machine.specs.declared.Rule.{Rule}
use Rattle.hg_machine.specs.SoundPolicy.{IsSoundPolicy}
use Rattle.hg_parts.specs.Tidy.{IsTidy}
use Rattle.hg_events.specs.Core.{Core, parts_of, heap_of}
use Rattle.hg_events.specs.Own.{with_heap, IsOwnCall}
use Rattle.hg_chosen.specs.Chosen.{IsChosenBy}

-- each page of the heap has the lists that it had, and the queues are the same
pub record IsSame (old new : Held PlainWords) : Type 0 where
  pub lists : KeepsLists plain_number old.segments new.segments
  pub queues : new.queues ≡ old.queues

-- such a call on the worker's own heap, which left the word that it showed, is a step with its
-- choices, from tidy parts under a sound policy
abbrev pub SameIsChosen : Core → ℕ → Place → ℕ → Event → Answer → Held PlainWords → Type 0
SameIsChosen core worker place word event answer heap =
    IsSoundPolicy core.policy → IsTidy (parts_of core)
    → IsOwnCall core worker place word word event answer heap
    → IsSame (heap_of core worker) heap
    → IsChosenBy core worker event answer (with_heap core worker heap)

-- so it is of a read of a block, whatever it answers
abbrev pub ReadIsChosen : Type 0
ReadIsChosen =
    (core : Core) (worker : ℕ) (actor : Actor) (handle : Handle) (index word : ℕ)
    (result : Result ℕ Refused) (heap : Held PlainWords)
    → SameIsChosen core worker handle.place word (event.Read actor handle index)
    (read_answer result) heap

-- and of a write
abbrev pub WriteIsChosen : Type 0
WriteIsChosen =
    (core : Core) (worker : ℕ) (actor : Actor) (handle : Handle) (index value word : ℕ)
    (result : Result (Unit {0}) Refused) (heap : Held PlainWords)
    → SameIsChosen core worker handle.place word (event.Write actor handle index value)
    (done_answer result) heap

-- and of a look at a place
abbrev pub LookIsChosen : Type 0
LookIsChosen =
    (core : Core) (worker : ℕ) (actor : Actor) (place : Place) (word : ℕ) (row : Option Row)
    (heap : Held PlainWords)
    → SameIsChosen core worker place word (event.Look actor place)
    (row_answer row (list_denial core.policy actor place word)) heap

-- and of a free that is denied
abbrev pub DeniedFreeIsChosen : Type 0
DeniedFreeIsChosen =
    (core : Core) (worker : ℕ) (actor : Actor) (handle : Handle) (word : ℕ) (rule : Rule)
    (heap : Held PlainWords)
    → SameIsChosen core worker handle.place word (event.Free actor handle) (answer.Denied rule)
    heap

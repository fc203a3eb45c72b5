-- What a heap's call is to a worker who has the heap: a step of the machine.
use Rattle.std.specs.Prelude.{◌≡◌, ℕ, ◌<◌, List, Option, Some, map, slice_get, slice_set}
use Rattle.hg_place.specs.declared.Place.{Place}
use Rattle.hg_place.specs.declared.standing.Standing.{Standing}
use Rattle.hg_place.specs.Places.{number_of}
use Rattle.hg_place.specs.Standings.{slot_of}
use Rattle.hg_machine.specs.Policy.{Policy}
use Rattle.hg_machine.specs.declared.Event.{Event}
use Rattle.hg_machine.specs.declared.Answer.{Answer}
use Rattle.hg_segment.specs.Kept.{Kept}
use Rattle.hg_agreement.specs.Views.{View, Shown}
use Rattle.hg_agreement.specs.Agreement.{Ties}
use Rattle.hg_agreement.specs.Holdings.{Holding, view_of}
use Rattle.hg_heap.specs.Held.{kind_of}

-- a step on the word of a place showed this one
abbrev pub shown_at : Place → ℕ → Option Shown
shown_at place word = Some (record { place = number_of place; word = word })

module _ {S : Type 0} (number : S → ℕ) (records : S → List Standing) where
  abbrev pub holding : Kept S → Holding
  holding k = record {
    number = number k.slots;
    standings = records k.slots;
    classes = k.classes;
    words = k.words;
  }

  -- what a worker with these segments has
  abbrev pub heap_view : Policy → ℕ → Option ℕ → ℕ → List (Kept S) → View
  heap_view policy worker hand generation segments =
      view_of policy worker hand generation (map holding segments)

  -- For a worker of any number, with anything in its hand: the answer is the machine's, in every
  -- state that agrees with the old segments and the word shown, and the state after it agrees with
  -- the new ones and the word left
  abbrev pub HeapTies
      : Policy → Option Shown → Option Shown → Event → Answer → List (Kept S) → List (Kept S)
      → Type 0
  HeapTies policy shown left event answer old new =
      (worker : ℕ) (hand : Option ℕ) (generation : ℕ) → worker < policy.workers
      → Ties (heap_view policy worker hand generation old) shown event answer
      (heap_view policy worker hand generation new) left

module _ {S : Type 0} (number : S → ℕ) (shows : S → ℕ → ℕ → Type 0)
    (steps : S → ℕ → ℕ → ℕ → S → Type 0) where
  -- the segment of the place made one step at it, which showed the one word and left the other; the
  -- other segments are as they were
  pub record Stepped (place : Place) (word left : ℕ) (old new : List (Kept S)) : Type 0 where
    pub found : ℕ
    pub before : Kept S
    pub after : Kept S
    pub at : slice_get old found ≡ Some before
    pub now : new ≡ slice_set old found after
    pub segment : number before.slots ≡ place.segment
    pub kind : kind_of number after ≡ kind_of number before
    pub shown : shows before.slots (slot_of place) word
    pub stepped : steps before.slots (slot_of place) word left after.slots

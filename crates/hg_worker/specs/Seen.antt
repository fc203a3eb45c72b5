-- What a call adds to what a worker's seats have seen and ended.
use Rattle.std.specs.Prelude.{◌≡◌, ◌≢◌, ◌≤◌, ℕ, true, List, [], ◌∷◌, ◌++◌, map, length, Option, Some}
use Rattle.std.specs.Prelude.{None, option_map, is_some}
use mathlib.Core.Option.{some}
use lib.ListN.{get_elem?}
use Rattle.hg_place.specs.declared.Place.{Place}
use Rattle.hg_place.specs.Lives.{IsAtOrBefore}
use Rattle.hg_place.specs.Places.{number_of}
use Rattle.hg_place.specs.Standings.{slot_of}
use Rattle.hg_machine.specs.Policy.{arena_of}
use Rattle.hg_segment.specs.Kept.{Kept}
use Rattle.hg_agreement.specs.Views.{Shown}
use Rattle.hg_heap.specs.Held.{segment_in, is_held}
use Rattle.hg_table.specs.declared.view.Part.{Part}
use Rattle.hg_table.specs.Seats.{word_at}
use Rattle.hg_table.specs.Told.{IsShown}
use Rattle.hg_worker.specs.Had.{Had}

-- the index of the word of a place
abbrev pub word_of : Place → ℕ
word_of place = word_at place.segment (slot_of place)

module _ {S : Type 0} (number : S → ℕ) (part : S → Part) where
  abbrev pub part_by : Option (Kept S) → Part → Part
  part_by None own = own
  part_by (Some k) own = part k.slots

  -- what the worker's seat for a place knows: that of the place's segment where the worker holds
  -- it, else the worker's own
  abbrev pub part_for : Had S → Place → Part
  part_for had place = part_by (segment_in number had.heap.segments place.segment) had.own

  -- what the seat of a segment knows, where the worker holds it
  abbrev pub part_of_segment : Had S → ℕ → Option Part
  part_of_segment had segment =
      option_map (λ k. part k.slots) (segment_in number had.heap.segments segment)

  -- no seat of the worker has seen or ended anything more
  pub record KeepsSeats (old new : Had S) : Type 0 where
    pub own : new.own ≡ old.own
    pub segments : (segment : ℕ) → part_of_segment new segment ≡ part_of_segment old segment

  -- The call decided at the place: the last step of the worker's seat for it found the one word and
  -- left the other, after it had looked at some words there. These that seat has seen more,
  -- and the word left is at or after all that it has seen there. It has ended the lives that are
  -- named, and no other; and the worker's other seats know what they knew
  pub record Decided (place : Place) (found left : ℕ) (lives : List (ℕ × ℕ)) (old new : Had S)
      : Type 0 where
    pub shown : IsShown (word_of place) found (part_for old place)
    pub looked_at : List ℕ
    pub seen :
        (part_for new place).seen
        ≡ (part_for old place).seen
        ++ (map (λ word. (word_of place, word)) looked_at ++ (word_of place, left) ∷ [])
    pub newest :
        (k word : ℕ) → get_elem? (part_for new place).seen k ≡ some (word_of place, word)
        → IsAtOrBefore word left
    pub ended : (part_for new place).ended ≡ (part_for old place).ended ++ lives
    pub own : is_held number old.heap.segments place.segment ≡ true → new.own ≡ old.own
    pub others :
        (segment : ℕ) → segment ≢ place.segment
        → part_of_segment new segment ≡ part_of_segment old segment

  -- The call looked at the place and ended no life: the last word that it found, it left. Without
  -- a word, the policy has no such segment, and no step was made
  abbrev pub Looked : Place → Option Shown → Had S → Had S → Type 0
  Looked place None old new =
      (arena_of old.policy place.segment ≡ None) × KeepsSeats old new
  Looked place (Some shown) old new =
      (is_some (arena_of old.policy place.segment) ≡ true) × (shown.place ≡ number_of place)
      × Decided place shown.word shown.word [] old new

  -- the call made no more steps than so many by the worker's seat for the place, each of them there:
  -- these words that seat has seen more
  abbrev pub StepsWithin : ℕ → Place → Had S → Had S → Type 0
  StepsWithin most place old new =
      (words : List ℕ) × (length words ≤ most)
      × ((part_for new place).seen
      ≡ (part_for old place).seen ++ map (λ word. (word_of place, word)) words)

  -- a step of the worker's seat for a place of the policy may find this word there
  abbrev pub MayShow : Had S → Option Shown → Type 0
  MayShow had None = Unit {0}
  MayShow had (Some shown) =
      (place : Place) × (is_some (arena_of had.policy place.segment) ≡ true)
      × (shown.place ≡ number_of place) × IsShown (word_of place) shown.word (part_for had place)

  -- no seat that the worker has before and after the call has ended anything more
  pub record EndsNothing (old new : Had S) : Type 0 where
    pub own : new.own.ended ≡ old.own.ended
    pub segments :
        (segment : ℕ) (a b : Part) → part_of_segment old segment ≡ Some a
        → part_of_segment new segment ≡ Some b → b.ended ≡ a.ended

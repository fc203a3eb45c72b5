-- Laws: which words a worker finds, and which workers are usual.
use Rattle.std.specs.Prelude.{◌≡◌, ℕ, ◌<◌, ◌≤◌, true, false, length, Some, None}
use Rattle.hg_place.specs.declared.Place.{Place}
use Rattle.hg_place.specs.Places.{number_of, segment_of}
use Rattle.hg_place.specs.Words.{word_of}
use Rattle.hg_place.specs.Lives.{IsSlotWord, IsAtOrBefore}
use Rattle.hg_place.specs.Slots.{slot_in}
use Rattle.hg_agreement.specs.Views.{View, Shown, IsWordOf}
use Rattle.hg_agreement.specs.Witness.{IsHeapView, IsFoundBy, IsUsual}

-- a slot word of a place of the policy is found where it fits the record of a held place, and at
-- the place in hand is at or after the freed word of the life in hand, whoever owned that
abbrev pub FittingWordsAreFound : Type 0
FittingWordsAreFound =
    (view : View) (place : Place) (word owner : ℕ) → owner < 64
    → place.segment < length view.policy.segments → IsSlotWord word
    → (view.holds place.segment ≡ true → IsWordOf (view.standing (number_of place)) word)
    → (view.hand ≡ Some (number_of place)
    → IsAtOrBefore (word_of view.hand_generation owner false) word)
    → IsFoundBy view (record { place = number_of place; word = word })

-- the hand has nothing, or a life up to the greatest of a place that the worker doesn't hold
pub record IsHandElsewhere (view : View) : Type 0 where
  pub generation :
      (place : ℕ) → view.hand ≡ Some place → view.hand_generation ≤ view.policy.max_generation
  pub unheld :
      (place : ℕ) → view.hand ≡ Some place → view.holds (segment_of place) ≡ false

-- A worker with such a hand is usual where no step was on a word, and at each word that it finds of
-- a place that it holds. A worker that is usual without a word is so at each word of a generation
-- up to the greatest, unless that is past the freed word of the life in hand; there it isn't
pub record WordsAreUsual : Type 0 where
  pub unshown : (view : View) → IsHandElsewhere view → IsUsual view None
  pub held :
      (view : View) (s : Shown) → IsHeapView view → IsHandElsewhere view → IsFoundBy view s
      → view.holds (segment_of s.place) ≡ true → IsUsual view (Some s)
  pub others :
      (view : View) (s : Shown) → IsUsual view None
      → (slot_in s.word).generation ≤ view.policy.max_generation
      → (view.hand ≡ Some s.place → (slot_in s.word).generation ≤ view.hand_generation)
      → IsUsual view (Some s)
  pub passed :
      (view : View) (s : Shown) → view.hand ≡ Some s.place
      → view.hand_generation < (slot_in s.word).generation → IsUsual view (Some s) → ⊥

-- What the witness state tells beyond the agreement: nothing.
use Rattle.std.specs.Prelude.{◌≡◌, ◌≢◌, ℕ, ◌*◌, ◌<◌, ◌||◌, true, false, [], ◌∷◌, length, Option}
use Rattle.std.specs.Prelude.{Some, None}
use Rattle.hg_place.specs.declared.geometry.TheConstants.{SEGMENT_PLACES, SEGMENT_PAGES}
use Rattle.hg_place.specs.Places.{segment_of, segment_of_page}
use Rattle.hg_place.specs.Standings.{is_home as is_home_standing}
use Rattle.hg_machine.specs.Life.{parted, never_used, is_home, is_live, contents_of}
use Rattle.hg_machine.specs.State.{State, orphan, record_at, class_at, holder_at, hand_of}
use Rattle.hg_machine.specs.Holders.{is_number}
use Rattle.hg_agreement.specs.Views.{View, Shown, slot_shown}
use Rattle.hg_agreement.specs.Witness.{is_shown_at, is_on, is_shown_on, witness}
use Rattle.hg_agreement.specs.Pool.{IsRising}

-- nothing is told of the place: it isn't in the hand, and no step was on its word
pub record IsUntold (view : View) (shown : Option Shown) (place : ℕ) : Type 0 where
  pub not_in_hand : is_number place view.hand ≡ false
  pub not_shown : is_shown_at shown place ≡ false

-- a place that the worker doesn't hold: in the hand it is of the life in hand, whose owner no word
-- tells; its block is one word that is zero; a word that shows it freed leaves it home; where
-- nothing is told it was never given out
pub record IsElsewhere (m : State) (view : View) (shown : Option Shown) (place : ℕ) : Type 0 where
  pub in_hand :
      view.hand ≡ Some place → is_shown_at shown place ≡ false
      → record_at m place
      ≡ record { generation = view.hand_generation; life = parted 0 (0 ∷ []) }
  pub words :
      is_home (record_at m place).life ≡ false → contents_of (record_at m place).life ≡ 0 ∷ []
  pub freed :
      is_number place view.hand ≡ false → is_shown_at shown place ≡ true
      → (slot_shown shown).live ≡ false → is_home (record_at m place).life ≡ true
  pub unused : IsUntold view shown place → record_at m place ≡ never_used

-- an open place lives where nothing is told of it; pages elsewhere have no class where nothing is
-- told of a place there; what the worker doesn't hold are orphans, rising; other hands are empty
pub record TellsNoMore (m : State) (view : View) (shown : Option Shown) : Type 0 where
  pub alive :
      (place : ℕ) → place < length view.policy.segments * SEGMENT_PLACES
      → view.holds (segment_of place) ≡ true → is_home_standing (view.standing place) ≡ false
      → IsUntold view shown place → is_live (record_at m place).life ≡ true
  pub elsewhere :
      (place : ℕ) → place < length view.policy.segments * SEGMENT_PLACES
      → view.holds (segment_of place) ≡ false → IsElsewhere m view shown place
  pub classes :
      (page : ℕ) → page < length view.policy.segments * SEGMENT_PAGES
      → view.holds (segment_of_page page) ≡ false
      → (is_on page view.hand || is_shown_on page shown) ≡ false → class_at m page ≡ None
  pub orphans :
      (segment : ℕ) → segment < length view.policy.segments → view.holds segment ≡ false
      → holder_at m segment ≡ orphan
  pub order : IsRising 0 m.orphans
  pub hands : (worker : ℕ) → worker ≢ view.worker → hand_of m worker ≡ None

abbrev pub WitnessTellsNoMore : Type 0
WitnessTellsNoMore =
    (view : View) (shown : Option Shown) → TellsNoMore (witness view shown) view shown

-- The witness state: it shows what a worker has and the observed word, and nothing else.
use Rattle.std.specs.Prelude.{◌≡◌, ℕ, ◌*◌, ◌==◌, ◌<◌, ◌≤◌, ◌||◌, ◌&&◌, Bool, true, false, not}
use Rattle.std.specs.Prelude.{if◌then◌else◌, List, [], ◌∷◌, length, Option, Some, None, map, filter}
use Rattle.std.specs.Prelude.{replicate, slice_set, Contains, IfSome}
use Rattle.hg_place.specs.declared.geometry.TheConstants.{SEGMENT_PLACES}
use Rattle.hg_size.specs.Sizes.{sizes, places_of}
use Rattle.hg_size.specs.Runs.{IsRunAt}
use Rattle.hg_place.specs.Places.{page_of, segment_of, index_of, segment_of_page}
use Rattle.hg_place.specs.Slots.{Slot, slot_in}
use Rattle.hg_place.specs.Standings.{is_home, standing_generation}
use Rattle.hg_machine.specs.SoundPolicy.{IsSoundPolicy}
use Rattle.hg_machine.specs.Life.{Life, home, live, parted, Record, never_used}
use Rattle.hg_machine.specs.State.{State, Holder, orphan, held}
use Rattle.hg_machine.specs.Holders.{is_number}
use Rattle.hg_place.specs.declared.standing.Standing.{Standing}
use Rattle.hg_place.specs.declared.standing.Standing.TheVariants.{Home, Open}
use Rattle.hg_agreement.specs.Views.{View, Shown, slot_shown, IsWordOf}
use Rattle.hg_agreement.specs.Agreement.{Agrees}
use Rattle.hg_agreement.specs.Seen.{places_of_view, pages_of_view, segments_of_view}

-- a block of one word that is zero
abbrev pub one_word : List ℕ
one_word = 0 ∷ []

-- the step was on the word of this place
abbrev pub is_shown_at : Option Shown → ℕ → Bool
is_shown_at None place = false
is_shown_at (Some shown) place = shown.place == place

-- the place, or the place of the observed word, lies on this page
abbrev pub is_on : ℕ → Option ℕ → Bool
is_on page None = false
is_on page (Some place) = page_of place == page

abbrev pub is_shown_on : ℕ → Option Shown → Bool
is_shown_on page None = false
is_shown_on page (Some shown) = page_of shown.place == page

-- the life of a held place: as recorded, and live unless it is in the hand or shown freed
abbrev pub held_life : Bool → Standing → List ℕ → Life
held_life is_freed (Home generation) words = home
held_life is_freed (Open generation owner) words =
    if is_freed then parted owner words else live owner words

-- a place elsewhere: whether it is in the hand, whether its word was observed, what that says, and
-- the generation of the life in hand
abbrev pub other_record : Bool → Bool → Slot → ℕ → Record
other_record true true slot generation =
    record { generation = slot.generation; life = parted slot.owner one_word }
other_record true false slot generation =
    record { generation = generation; life = parted 0 one_word }
other_record false true slot generation = record {
  generation = slot.generation;
  life = if slot.live then live slot.owner one_word else home;
}
other_record false false slot generation = never_used

-- its life is over: it is in the hand, or its word was observed freed
abbrev pub is_ended : View → Option Shown → ℕ → Bool
is_ended view shown place =
    is_number place view.hand || (is_shown_at shown place && not (slot_shown shown).live)

-- a held place, and one that isn't
abbrev pub record_held : View → Option Shown → ℕ → Record
record_held view shown place = record {
  generation = standing_generation (view.standing place);
  life = held_life (is_ended view shown place) (view.standing place) (view.block place);
}

abbrev pub record_elsewhere : View → Option Shown → ℕ → Record
record_elsewhere view shown place =
    other_record (is_number place view.hand) (is_shown_at shown place) (slot_shown shown)
    view.hand_generation

-- the record of a place
abbrev pub record_in : View → Option Shown → ℕ → Record
record_in view shown place =
    if view.holds (segment_of place)
    then record_held view shown place
    else record_elsewhere view shown place

-- the class of a page: as in the heap; elsewhere one word where something is told of a place there
abbrev pub class_in : View → Option Shown → ℕ → Option ℕ
class_in view shown page =
    if view.holds (segment_of_page page)
    then view.class page
    else if is_on page view.hand || is_shown_on page shown then Some 1 else None

-- what isn't held is an orphan
abbrev pub holder_in : View → ℕ → Holder
holder_in view segment = if view.holds segment then held view.worker else orphan

-- orphans stand by number, and all hands but the worker's are empty
abbrev pub witness : View → Option Shown → State
witness view shown =
    let segments = segments_of_view view in
    record {
      policy = view.policy;
      records = map (record_in view shown) (places_of_view view);
      classes = map (class_in view shown) (pages_of_view view);
      holders = map (holder_in view) segments;
      orphans = filter (λ segment. not (view.holds segment)) segments;
      hands = slice_set (replicate view.policy.workers None) view.worker view.hand;
    }

-- What holds of every worker: its segments are the policy's and their classes sizes, of blocks that
-- end in their segment and of no covered page; a generation is no greater than the greatest; an
-- open place was given out, and is a block place of a page of its block's class; a place at home
-- has no words
pub record IsHeapView (view : View) : Type 0 where
  pub policy : IsSoundPolicy view.policy
  pub worker : view.worker < view.policy.workers
  pub segments :
      (segment : ℕ) → view.holds segment ≡ true → segment < length view.policy.segments
  pub classes :
      (page size : ℕ) → view.holds (segment_of_page page) ≡ true → view.class page ≡ Some size
      → Contains sizes size
  pub runs : (page : ℕ) → view.holds (segment_of_page page) ≡ true → IsRunAt view.class page
  pub generations :
      (place : ℕ) → view.holds (segment_of place) ≡ true
      → standing_generation (view.standing place) ≤ view.policy.max_generation
  pub given_out :
      (place : ℕ) → view.holds (segment_of place) ≡ true → is_home (view.standing place) ≡ false
      → 1 ≤ standing_generation (view.standing place)
  pub sized :
      (place : ℕ) → view.holds (segment_of place) ≡ true → is_home (view.standing place) ≡ false
      → view.class (page_of place) ≡ Some (length (view.block place))
  pub below :
      (place : ℕ) → view.holds (segment_of place) ≡ true → is_home (view.standing place) ≡ false
      → index_of place < places_of (length (view.block place))
  pub empty :
      (place : ℕ) → view.holds (segment_of place) ≡ true → is_home (view.standing place) ≡ true
      → view.block place ≡ []

-- What holds of an observed word: it is of a place of the policy; where the heap records the place,
-- it fits the record; and of the place in hand it is at or after the freed word of the life in
-- hand, which the worker has seen there
pub record IsFoundBy (view : View) (shown : Shown) : Type 0 where
  pub within : shown.place < length view.policy.segments * SEGMENT_PLACES
  pub fits :
      view.holds (segment_of shown.place) ≡ true → IsWordOf (view.standing shown.place) shown.word
  pub seen :
      view.hand ≡ Some shown.place
      → (view.hand_generation ≤ (slot_in shown.word).generation)
      × ((slot_in shown.word).generation ≡ view.hand_generation
      → (slot_in shown.word).live ≡ false)

-- None of the exceptions: the generation of the word, and that of the life in hand, are no greater
-- than the greatest, and the heap doesn't record the place in hand as home, nor is it shown past
-- the freed word of that life
pub record IsUsual (view : View) (shown : Option Shown) : Type 0 where
  pub word : (s : Shown) → shown ≡ Some s → (slot_in s.word).generation ≤ view.policy.max_generation
  pub hand :
      (place : ℕ) → view.hand ≡ Some place → view.hand_generation ≤ view.policy.max_generation
  pub recorded :
      (place : ℕ) → view.hand ≡ Some place → view.holds (segment_of place) ≡ true
      → is_home (view.standing place) ≡ false
  pub unpassed :
      (place : ℕ) (s : Shown) → view.hand ≡ Some place → shown ≡ Some s → s.place ≡ place
      → (slot_in s.word).generation ≤ view.hand_generation

-- the hand has a place of the policy, of a life that was given out
pub record IsHandOf (view : View) : Type 0 where
  pub within :
      (place : ℕ) → view.hand ≡ Some place
      → place < length view.policy.segments * SEGMENT_PLACES
  pub given_out : (place : ℕ) → view.hand ≡ Some place → 1 ≤ view.hand_generation

-- the witness state agrees, but for the exceptions; so it is sound
abbrev pub WitnessAgrees : Type 0
WitnessAgrees =
    (view : View) (shown : Option Shown) → IsHeapView view → IsHandOf view
    → IfSome shown (IsFoundBy view) → IsUsual view shown
    → Agrees (witness view shown) view shown

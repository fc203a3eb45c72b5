-- What the word of a slot shows of the record of its place.
use Rattle.std.specs.Prelude.{◌≡◌, ℕ, true, false}
use Rattle.hg_place.specs.declared.Place.{Place}
use Rattle.hg_place.specs.declared.Right.{Right}
use Rattle.hg_place.specs.Places.{number_of}
use Rattle.hg_place.specs.Slots.{Slot, slot_in}
use Rattle.hg_place.specs.Words.{word_of, IsSlot}
use Rattle.hg_machine.specs.Life.{Record, is_home, is_live, owner_of}
use Rattle.hg_machine.specs.State.{State, record_at}
use Rattle.hg_machine.specs.Denial.{denial, denial_on}

-- the slot shows the generation of the record, whether it is live, and whose it is where it is live
pub record Shows (slot : Slot) (r : Record) : Type 0 where
  pub generation : slot.generation ≡ r.generation
  pub live : slot.live ≡ is_live r.life
  pub owner : is_live r.life ≡ true → slot.owner ≡ owner_of r.life

-- the word shows it too of a block that is parted; of a place that is home it may show any owner
pub record IsShownBy (r : Record) (word : ℕ) : Type 0 where
  pub generation : (slot_in word).generation ≡ r.generation
  pub live : (slot_in word).live ≡ is_live r.life
  pub owner : is_home r.life ≡ false → (slot_in word).owner ≡ owner_of r.life

-- the first rule by a word that shows the record of a place is the first rule in the state
abbrev pub WordsDecide : Type 0
WordsDecide =
    (s : State) (actor : ℕ) (right : Right) (place : Place) (expected word : ℕ)
    → Shows (slot_in word) (record_at s (number_of place))
    → denial_on s.policy actor right place.segment expected (slot_in word)
    ≡ denial s actor right place expected

-- a word by which a record is shown is such a word
abbrev pub ShownRecordsDecide : Type 0
ShownRecordsDecide = (r : Record) (word : ℕ) → IsShownBy r word → Shows (slot_in word) r

-- the word made of a record shows it, whatever owner it has of a place that is home
abbrev pub OwnWordsShow : Type 0
OwnWordsShow =
    (r : Record) (owner : ℕ)
    → (is_home r.life ≡ false → owner ≡ owner_of r.life)
    → IsSlot r.generation owner (is_live r.life)
    → IsShownBy r (word_of r.generation owner (is_live r.life))

-- two blocks that one word shows are of one generation and owner, and both live or both parted
pub record IsSameBlock (r q : Record) : Type 0 where
  pub generation : r.generation ≡ q.generation
  pub live : is_live r.life ≡ is_live q.life
  pub owner : owner_of r.life ≡ owner_of q.life

abbrev pub OneWordOneBlock : Type 0
OneWordOneBlock =
    (r q : Record) (word : ℕ)
    → is_home r.life ≡ false → is_home q.life ≡ false → IsShownBy r word → IsShownBy q word
    → IsSameBlock r q

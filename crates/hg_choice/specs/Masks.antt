-- What is left of a state where the words of some blocks are hidden.
use Rattle.std.specs.Prelude.{ℕ, Bool, true, false, List, length, map, replicate}
use Rattle.hg_place.specs.Places.{segment_of}
use Rattle.hg_machine.specs.Life.{Life, home, live, parted, Record, owner_of}
use Rattle.hg_machine.specs.State.{State, record_at, places_in}
use Rattle.hg_machine.specs.Lists.{Kept}

-- the words of a block, or where they are hidden as many zeros
abbrev pub masked_words : Bool → List ℕ → List ℕ
masked_words true words = replicate (length words) 0
masked_words false words = words

-- which blocks have hidden words, by segment and owner
module _ (hides : ℕ → ℕ → Bool) where
  abbrev pub masked_life : ℕ → Life → Life
  masked_life segment home = home
  masked_life segment (live owner words) =
      live owner (masked_words (hides segment owner) words)
  masked_life segment (parted owner words) =
      parted owner (masked_words (hides segment owner) words)

  abbrev pub masked_record : State → ℕ → Record
  masked_record s place = record {
    generation = (record_at s place).generation;
    life = masked_life (segment_of place) (record_at s place).life;
  }

  -- the state with zeros for hidden words
  abbrev pub masked : State → State
  masked s = record s { records = map (masked_record s) (places_in s) }

  abbrev pub masked_kept : Kept → Kept
  masked_kept k = record k { state = masked k.state }

  -- the words of the block at the place are hidden
  abbrev pub is_hidden : State → ℕ → Bool
  is_hidden s place = hides (segment_of place) (owner_of (record_at s place).life)

-- What a call at one place of a segment leaves of the segment.
use Rattle.std.specs.Prelude.{◌≡◌, ℕ, ◌-◌, ◌==◌, List, slice_set}
use Rattle.hg_place.specs.declared.Place.{Place}
use Rattle.hg_place.specs.declared.standing.Standing.{Standing}
use Rattle.hg_place.specs.declared.standing.Standing.TheVariants.{Home}
use Rattle.hg_place.specs.Lives.{IsLiveWord, word_generation}
use Rattle.hg_place.specs.Standings.{slot_of}
use Rattle.hg_segment.specs.Kept.{Kept, IsFixed, lists_at, returned}
use Rattle.hg_segment.specs.Blocks.{KeepsBlocks}

module _ {S : Type 0} (number : S → ℕ) (records : S → List Standing) (shows : S → ℕ → ℕ → Type 0)
    (steps : S → ℕ → ℕ → ℕ → S → Type 0) where
  -- one step at the place showed the word and left it; the segment is as it was, but for the words
  -- of blocks
  pub record Looked (place : Place) (word : ℕ) (old new : Kept S) : Type 0 where
    pub shown : shows old.slots (slot_of place) word
    pub step : steps old.slots (slot_of place) word word new.slots
    pub same_number : number new.slots ≡ number old.slots
    pub same_records : records new.slots ≡ records old.slots
    pub rest : new ≡ record old { slots = new.slots; words = new.words }

  -- one step at the place ended the life of this word: the place is home and its index returned
  pub record Closed (place : Place) (word : ℕ) (old new : Kept S) : Type 0 where
    pub live : IsLiveWord word
    pub shown : shows old.slots (slot_of place) word
    pub step : steps old.slots (slot_of place) word (word - 1) new.slots
    pub same_number : number new.slots ≡ number old.slots
    pub fixed : IsFixed old new
    pub home :
        records new.slots
        ≡ slice_set (records old.slots) (slot_of place) (Home (word_generation word))
    pub lists :
        new.lists
        ≡ slice_set old.lists place.page
        (returned (word_generation word == old.greatest) (lists_at old.lists place.page)
        place.index)
    pub blocks : KeepsBlocks (records new.slots) old.classes old.words new.words

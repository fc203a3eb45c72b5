-- A block is freed by a worker that doesn't hold its segment.
use Rattle.std.specs.Prelude.{◌≡◌, ◌≢◌, ℕ, ◌-◌, slice_index, slice_set}
use Rattle.hg_place.specs.declared.Place.{Place}
use Rattle.hg_place.specs.declared.plain.PlainWords.{PlainWords}
use Rattle.hg_place.specs.Plain.{plain_words, plain_records}
use Rattle.hg_place.specs.Standings.{slot_of}
use Rattle.hg_segment.specs.Kept.{Kept}

abbrev pub plain_number : PlainWords → ℕ
plain_number slots = slots.segment

-- the life of the word that stood there is over, and the place stays open; nothing else of the
-- segment has changed
pub record Parted (place : Place) (live : ℕ) (old new : Kept PlainWords) : Type 0 where
  pub stood : slice_index (plain_words old.slots) (slot_of place) ≡ live
  pub ended : plain_words new.slots ≡ slice_set (plain_words old.slots) (slot_of place) (live - 1)
  pub records : plain_records new.slots ≡ plain_records old.slots
  pub number : plain_number new.slots ≡ plain_number old.slots
  pub rest : new ≡ record old { slots = new.slots }

-- another word stood there, and the segment is as it was
pub record NotParted (place : Place) (live word : ℕ) (old new : Kept PlainWords) : Type 0 where
  pub other : word ≢ live
  pub stood : slice_index (plain_words old.slots) (slot_of place) ≡ word
  pub same : new ≡ old

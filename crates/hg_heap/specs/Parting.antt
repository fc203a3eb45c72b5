-- A block of a heap is freed by a worker that has another heap.
use Rattle.std.specs.Prelude.{◌≡◌, ℕ, List, Option, Some, option_map, slice_get, slice_set}
use Rattle.std.specs.Prelude.{slice_index}
use Rattle.hg_place.specs.declared.Place.{Place}
use Rattle.hg_place.specs.declared.plain.PlainWords.{PlainWords}
use Rattle.hg_place.specs.declared.standing.Standing.{Standing}
use Rattle.hg_place.specs.Plain.{plain_records, plain_words}
use Rattle.hg_place.specs.Standings.{slot_of, standing_at}
use Rattle.hg_segment.specs.Kept.{Kept}
use Rattle.hg_segment.specs.Parted.{Parted, plain_number}
use Rattle.hg_heap.specs.Held.{segment_in}

-- the record of a place, if its segment is held
abbrev pub record_in : List (Kept PlainWords) → Place → Option Standing
record_in segments place =
    option_map (λ k. standing_at (plain_records k.slots) (slot_of place))
    (segment_in plain_number segments place.segment)

-- the word of a place, if its segment is held
abbrev pub word_in : List (Kept PlainWords) → Place → Option ℕ
word_in segments place =
    option_map (λ k. slice_index (plain_words k.slots) (slot_of place))
    (segment_in plain_number segments place.segment)

-- the segment of the place has it parted; the other segments are as they were
pub record PartedIn (place : Place) (live : ℕ) (old new : List (Kept PlainWords)) : Type 0 where
  pub found : ℕ
  pub before : Kept PlainWords
  pub after : Kept PlainWords
  pub at : slice_get old found ≡ Some before
  pub now : new ≡ slice_set old found after
  pub segment : plain_number before.slots ≡ place.segment
  pub parted : Parted place live before after

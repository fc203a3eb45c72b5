-- A block is freed whose segment is in the pool.
use Rattle.std.specs.Prelude.{◌≡◌, ℕ, Some}
use Rattle.hg_place.specs.declared.Place.{Place}
use Rattle.hg_place.specs.declared.plain.PlainWords.{PlainWords}
use Rattle.hg_segment.specs.Kept.{Kept}
use Rattle.hg_segment.specs.Parted.{Parted, plain_number}
use Rattle.hg_pool.specs.Pooled.{Pooled, segment_of, with_segment}

-- the segment of the place has it parted; the pool is as it was otherwise
pub record PartedIn (place : Place) (live : ℕ) (old new : Pooled PlainWords) : Type 0 where
  pub before : Kept PlainWords
  pub after : Kept PlainWords
  pub there : segment_of plain_number old place.segment ≡ Some before
  pub parted : Parted place live before after
  pub now : new ≡ with_segment plain_number old place.segment after

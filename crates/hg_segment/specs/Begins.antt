-- Where in a segment a block of a size may begin.
use Rattle.std.specs.Prelude.{◌≡◌, ◌<◌, ℕ, true, List}
use Rattle.hg_place.specs.declared.geometry.TheConstants.{SEGMENT_PAGES}
use Rattle.hg_place.specs.declared.standing.Standing.{Standing}
use Rattle.hg_place.specs.Standings.{standing_at}
use Rattle.hg_size.specs.Sizes.{places_of}
use Rattle.hg_size.specs.Runs.{may_begin}
use Rattle.hg_segment.specs.Kept.{Kept, slot, class_at}
use Rattle.hg_segment.specs.Right.{is_vacant}

module _ {S : Type 0} (records : S → List Standing) where
  -- at a page that may get the class of the size, and has a place for it that is vacant
  pub record CanBegin (k : Kept S) (size page : ℕ) : Type 0 where
    pub may : may_begin (class_at k.classes) size page ≡ true
    pub vacant :
        (index : ℕ) × (index < places_of size)
        × (is_vacant k.greatest (standing_at (records k.slots) (slot page index)) ≡ true)

  -- at the first such page
  pub record IsFirstBegin (k : Kept S) (size page : ℕ) : Type 0 where
    pub below : page < SEGMENT_PAGES
    pub can : CanBegin k size page
    pub first : (other : ℕ) → other < page → ¬ CanBegin k size other

-- What stays of a heap's segments where no record changes.
use Rattle.std.specs.Prelude.{◌≡◌, ℕ, List, Option, map, slice_get, slice_set, Some}
use Rattle.hg_place.specs.declared.Place.{Place}
use Rattle.hg_place.specs.declared.standing.Standing.{Standing}
use Rattle.hg_page.specs.PageLists.{PageLists}
use Rattle.hg_segment.specs.Kept.{Kept}
use Rattle.hg_segment.specs.Blocks.{block_at, KeepsOtherBlocks}

-- a segment, of whose slot words the number and the records alone are told
pub record Rest : Type 0 where
  pub number : ℕ
  pub arena : ℕ
  pub greatest : ℕ
  pub standings : List Standing
  pub words : List ℕ
  pub classes : List (Option ℕ)
  pub lists : List PageLists

module _ {S : Type 0} (numbered : S → ℕ) (records : S → List Standing) where
  abbrev pub rest_of : Kept S → Rest
  rest_of k = record {
    number = numbered k.slots;
    arena = k.arena;
    greatest = k.greatest;
    standings = records k.slots;
    words = k.words;
    classes = k.classes;
    lists = k.lists;
  }

  -- the segments stand as they stood, each with its records, classes, words and lists
  abbrev pub KeepsAll : List (Kept S) → List (Kept S) → Type 0
  KeepsAll old new = map rest_of new ≡ map rest_of old

  -- The word of the block at the place, where the block has one of this index, has this value. The
  -- segment has all else of its block, and
  -- the blocks of the other open places, its records, classes and lists; the other segments are as
  -- they were
  pub record Wrote (place : Place) (index value : ℕ) (old new : List (Kept S)) : Type 0 where
    pub found : ℕ
    pub before : Kept S
    pub after : Kept S
    pub at : slice_get old found ≡ Some before
    pub now : new ≡ slice_set old found after
    pub segment : numbered before.slots ≡ place.segment
    pub same_number : numbered after.slots ≡ numbered before.slots
    pub same_records : records after.slots ≡ records before.slots
    pub rest : after ≡ record before { slots = after.slots; words = after.words }
    pub written :
        block_at after.words before.classes place.page place.index
        ≡ slice_set (block_at before.words before.classes place.page place.index) index value
    pub others :
        KeepsOtherBlocks (records before.slots) before.classes place.page place.index before.words
        after.words

-- A page of a heap gets a class.
use Rattle.std.specs.Prelude.{◌≡◌, ℕ, ◌%◌, List, Some, slice_get, slice_set}
use Rattle.hg_place.specs.declared.geometry.TheConstants.{SEGMENT_PAGES}
use Rattle.hg_place.specs.declared.standing.Standing.{Standing}
use Rattle.hg_place.specs.Places.{segment_of_page}
use Rattle.hg_size.specs.Sizes.{places_of}
use Rattle.hg_page.specs.PageLists.{fresh}
use Rattle.hg_segment.specs.Kept.{Kept}
use Rattle.hg_segment.specs.Blocks.{KeepsBlocks}
use Rattle.hg_segment.specs.Right.{vacant_in}

module _ {S : Type 0} (number : S → ℕ) (records : S → List Standing) where
  -- the page has this class now, and all its places that may be given out are free; no place was
  -- given out or taken home, and the open blocks of its segment have the words that they had
  pub record Begun (size page : ℕ) (old new : List (Kept S)) : Type 0 where
    pub found : ℕ
    pub before : Kept S
    pub after : Kept S
    pub at : slice_get old found ≡ Some before
    pub now : new ≡ slice_set old found after
    pub segment : number before.slots ≡ segment_of_page page
    pub changed : after ≡ record before {
      words = after.words;
      classes = slice_set before.classes (page % SEGMENT_PAGES) (Some size);
      lists = slice_set before.lists (page % SEGMENT_PAGES) (fresh (vacant_in before.greatest
          (records before.slots) (page % SEGMENT_PAGES) (places_of size)));
    }
    pub blocks : KeepsBlocks (records before.slots) before.classes before.words after.words

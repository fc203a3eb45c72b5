-- What a segment keeps, as its callers know it.
use Rattle.std.specs.Prelude.{◌≡◌, ℕ, ◌<◌, ◌≤◌, false, List, length, Contains, Some}
use Rattle.hg_place.specs.declared.geometry.TheConstants.{SEGMENT_PAGES, PAGE_PLACES}
use Rattle.hg_place.specs.declared.geometry.TheConstants.{SEGMENT_WORDS}
use Rattle.hg_place.specs.declared.standing.Standing.{Standing}
use Rattle.hg_place.specs.Standings.{standing_at, is_home, standing_generation}
use Rattle.hg_size.specs.Runs.{AreRuns}
use Rattle.hg_size.specs.Sizes.{sizes}
use Rattle.hg_page.specs.PageLists.{listed}
use Rattle.hg_segment.specs.Kept.{Kept, slot, class_at, lists_at}
use Rattle.hg_segment.specs.Blocks.{block_at}
use Rattle.hg_segment.specs.Right.{AreListsRight, IsBlockPlace}

module _ {S : Type 0} (records : S → List Standing) where
  -- the clauses of `Segment::settled`, of a segment whose slot words have these records
  pub record IsSettled (k : Kept S) : Type 0 where
    pub lists :
        (page : ℕ) → page < SEGMENT_PAGES
        → AreListsRight k.greatest (records k.slots) page (class_at k.classes page)
        (lists_at k.lists page)
    pub sizes :
        (page size : ℕ) → class_at k.classes page ≡ Some size → Contains sizes size
    pub runs : AreRuns (class_at k.classes)
    pub bounded :
        (at : ℕ) → standing_generation (standing_at (records k.slots) at) ≤ k.greatest
    pub opened :
        (page index : ℕ) → page < SEGMENT_PAGES → index < PAGE_PLACES
        → is_home (standing_at (records k.slots) (slot page index)) ≡ false
        → IsBlockPlace (class_at k.classes page) index
    pub listed :
        (page index : ℕ) → page < SEGMENT_PAGES → Contains (listed (lists_at k.lists page)) index
        → IsBlockPlace (class_at k.classes page) index
    pub blocks :
        (page index size : ℕ) → page < SEGMENT_PAGES → index < PAGE_PLACES
        → is_home (standing_at (records k.slots) (slot page index)) ≡ false
        → class_at k.classes page ≡ Some size
        → length (block_at k.words k.classes page index) ≡ size
    pub pages : length k.lists ≡ SEGMENT_PAGES
    pub classes : length k.classes ≡ SEGMENT_PAGES
    pub words : length k.words ≡ SEGMENT_WORDS

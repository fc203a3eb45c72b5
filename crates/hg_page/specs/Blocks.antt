-- The words of a page's blocks.
use Rattle.std.specs.Prelude.{◌≡◌, ◌≢◌, ◌⊎◌, ℕ, ◌+◌, ◌*◌, ◌<◌, ◌≤◌, List}
use Rattle.hg_place.specs.declared.geometry.TheConstants.{PAGE_WORDS}
use Rattle.hg_page.specs.declared.page.Page.{Page}
use Rattle.hg_size.specs.Sizes.{pages_of}
use Rattle.hg_page.specs.Shapes.{Shape, shape_of, start_of}
use Rattle.hg_page.specs.PageLists.{IsUsed}
use Rattle.hg_page.specs.Links.{lists_of, IsLinked}

-- the word is one of the block of this index
pub record IsInBlock (shape : Shape) (index at : ℕ) : Type 0 where
  pub low : start_of shape index ≤ at
  pub high : at < start_of shape index + shape.size

-- a used block ends in the pages that it lies over
abbrev pub UsedBlocksEndInTheirPage : Type 0
UsedBlocksEndInTheirPage =
    (p : Page) (words : List ℕ) (index : ℕ)
    → IsLinked p words
    → IsUsed (lists_of p words) index
    → start_of (shape_of p) index + (shape_of p).size
    ≤ (shape_of p).base + pages_of (shape_of p).size * PAGE_WORDS

-- no word is one of two blocks of a page
abbrev pub BlocksShareNoWord : Type 0
BlocksShareNoWord =
    (shape : Shape) (index other at : ℕ)
    → index ≢ other
    → IsInBlock shape index at
    → ¬ IsInBlock shape other at

-- the page is that of this number in its segment
abbrev pub IsPage : Page → ℕ → Type 0
IsPage p number = (shape_of p).base ≡ number * PAGE_WORDS

-- the blocks of the first page end before the other page begins
abbrev pub EndsBefore : Page → ℕ → ℕ → Type 0
EndsBefore p number other = number + pages_of (shape_of p).size ≤ other

-- no word is one of a used block of two pages, of which none reaches over the other
abbrev pub PagesShareNoWord : Type 0
PagesShareNoWord =
    (p q : Page) (words : List ℕ) (number other i j at : ℕ)
    → IsLinked p words
    → IsLinked q words
    → IsPage p number
    → IsPage q other
    → EndsBefore p number other ⊎ EndsBefore q other number
    → IsUsed (lists_of p words) i
    → IsUsed (lists_of q words) j
    → IsInBlock (shape_of p) i at
    → ¬ IsInBlock (shape_of q) j at

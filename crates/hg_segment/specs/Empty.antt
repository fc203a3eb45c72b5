-- A page that has no places.
use Rattle.std.specs.Prelude.{◌≡◌, ℕ, ◌*◌, List, [], length}
use Rattle.hg_place.specs.declared.geometry.TheConstants.{PAGE_WORDS}
use Rattle.hg_place.specs.declared.geometry.TheConstants.{SEGMENT_WORDS}
use Rattle.hg_page.specs.Shapes.{shape_of}
use Rattle.hg_page.specs.PageLists.{listed, IsIdle}
use Rattle.hg_page.specs.Links.{lists_of, IsLinked}
use Rattle.hg_page.specs.declared.page.Page.{Page}

pub record IsEmptyPage (page : ℕ) (p : Page) : Type 0 where
  pub linked : (words : List ℕ) → length words ≡ SEGMENT_WORDS → IsLinked p words
  pub unlisted : (words : List ℕ) → listed (lists_of p words) ≡ []
  pub idle : (words : List ℕ) → IsIdle (lists_of p words)
  pub base : (shape_of p).base ≡ page * PAGE_WORDS

-- How a segment's records, words, pages and charges go together.
use Rattle.std.specs.Prelude.{◌≡◌, ℕ, ◌*◌, ◌<◌, ◌≤◌, ◌==◌, Bool, true, false, not, List, []}
use Rattle.std.specs.Prelude.{length, slice_index, slice_index_or, Contains, Option, Some, None}
use Rattle.std.specs.Prelude.{filter}
use Rattle.std.specs.List.{range_with_len}
use Rattle.hg_place.specs.declared.geometry.TheConstants.{SEGMENT_PAGES, PAGE_PLACES, PAGE_WORDS}
use Rattle.hg_segment.specs.declared.charges.TheConstants.{TENANTS}
use Rattle.hg_size.specs.Sizes.{sizes, places_of}
use Rattle.hg_size.specs.Runs.{AreRuns}
use Rattle.hg_lists.specs.Repeats.{HasNoRepeats}
use Rattle.hg_page.specs.PageLists.{PageLists, listed}
use Rattle.hg_page.specs.Shapes.{Shape, shape_of}
use Rattle.hg_page.specs.Links.{lists_of, IsLinked}
use Rattle.hg_page.specs.declared.page.Page.{Page}
use Rattle.hg_place.specs.declared.standing.Standing.{Standing}
use Rattle.hg_place.specs.declared.standing.Standing.TheVariants.{Home, Open}
use Rattle.hg_place.specs.Standings.{standing_at, is_home, standing_generation}
use Rattle.hg_segment.specs.Kept.{slot, class_at}
use Rattle.hg_segment.specs.Charges.{charge_of}

-- home, and not worn: it may be given out again
abbrev pub is_vacant : ℕ → Standing → Bool
is_vacant greatest (Home g) = not (g == greatest)
is_vacant greatest (Open g o) = false

-- home, and never to be given out again
abbrev pub is_worn : ℕ → Standing → Bool
is_worn greatest (Home g) = g == greatest
is_worn greatest (Open g o) = false

-- the indexes of a page below a number that are vacant, rising
abbrev pub vacant_in : ℕ → List Standing → ℕ → ℕ → List ℕ
vacant_in greatest records page count =
    filter (λ index. is_vacant greatest (standing_at records (slot page index)))
    (range_with_len 0 count)

-- the places of a page that the lists have are those below the number of places that are vacant
abbrev pub HasVacant : ℕ → List Standing → ℕ → PageLists → Option ℕ → Type 0
HasVacant greatest records page lists None = listed lists ≡ []
HasVacant greatest records page lists (Some size) =
    (index : ℕ) → index < places_of size
    → is_vacant greatest (standing_at records (slot page index)) ≡ true
    → Contains (listed lists) index

-- an index that may stand on a list of the page
pub record IsVacantAt (greatest : ℕ) (records : List Standing) (page index : ℕ) : Type 0 where
  pub below : index < PAGE_PLACES
  pub vacant : is_vacant greatest (standing_at records (slot page index)) ≡ true

-- the lists of a page: each vacant place once and no other, and the open places are the used ones
pub record AreListsRight (greatest : ℕ) (records : List Standing) (page : ℕ) (class : Option ℕ)
    (lists : PageLists) : Type 0 where
  pub once : HasNoRepeats (listed lists)
  pub vacant : (index : ℕ) → Contains (listed lists) index → IsVacantAt greatest records page index
  pub all : HasVacant greatest records page lists class
  pub used :
      (index : ℕ) → index < PAGE_PLACES
      → slice_index_or lists.used index false
      ≡ not (is_home (standing_at records (slot page index)))

-- a page of blocks has the size and the number of places of its class
abbrev pub HasShape : Shape → Option ℕ → Type 0
HasShape shape None = Unit {0}
HasShape shape (Some size) =
    Contains sizes size × (shape.size ≡ size) × (shape.places ≡ places_of size)

-- a page without a class has nothing used
abbrev pub IsUnused : PageLists → Option ℕ → Type 0
IsUnused lists None = (index : ℕ) → slice_index_or lists.used index false ≡ false
IsUnused lists (Some size) = Unit {0}

-- a page of the segment: linked in its words, where it is to lie, of its class's shape, and its
-- lists right
pub record IsPageRight (greatest : ℕ) (records : List Standing) (words : List ℕ) (page : ℕ)
    (class : Option ℕ) (p : Page) : Type 0 where
  pub linked : IsLinked p words
  pub base : (shape_of p).base ≡ page * PAGE_WORDS
  pub shape : HasShape (shape_of p) class
  pub unused : IsUnused (lists_of p words) class
  pub lists : AreListsRight greatest records page class (lists_of p words)

-- a place that a block of its page's class may stand at
abbrev pub IsBlockPlace : Option ℕ → ℕ → Type 0
IsBlockPlace None index = ⊥
IsBlockPlace (Some size) index = index < places_of size

-- what a segment keeps: its pages right, no generation above the greatest, blocks that end in it
-- and no class at a covered page, and each charge the sum
pub record IsRight (greatest : ℕ) (records : List Standing) (words : List ℕ) (pages : List Page)
    (classes : List (Option ℕ)) (charges : List ℕ) : Type 0 where
  pub pages_all : length pages ≡ SEGMENT_PAGES
  pub classes_all : length classes ≡ SEGMENT_PAGES
  pub charges_all : length charges ≡ TENANTS
  pub each :
      (k : ℕ) → k < SEGMENT_PAGES → (d : Page)
      → IsPageRight greatest records words k (class_at classes k) (slice_index_or pages k d)
  pub bounded : (at : ℕ) → standing_generation (standing_at records at) ≤ greatest
  pub runs : AreRuns (class_at classes)
  pub charged :
      (tenant : ℕ) → tenant < TENANTS
      → slice_index charges tenant ≡ charge_of records classes tenant

-- What a heap holds: its segments, in the order in which they came until one leaves, and the queues
-- of their pages.
use Rattle.std.specs.Prelude.{◌≡◌, ◌≢◌, ℕ, ◌*◌, ◌%◌, ◌==◌, Bool, true, false, List, [], ◌∷◌, map}
use Rattle.std.specs.Prelude.{Option, Some, None, find, is_some}
use Rattle.std.specs.List.{range_with_len}
use Rattle.hg_place.specs.declared.geometry.TheConstants.{SEGMENT_PAGES}
use Rattle.hg_place.specs.Places.{segment_of_page}
use Rattle.hg_page.specs.PageLists.{PageLists, listed}
use Rattle.hg_queue.specs.declared.page_queues.TheConstants.{PAGES}
use Rattle.hg_segment.specs.Kept.{Kept, no_lists, lists_at}
use Rattle.hg_segment.specs.Kept.{class_at as class_in}

pub record Held (S : Type 0) : Type 0 where
  pub segments : List (Kept S)
  pub queues : List (List ℕ)

-- what no call changes of a segment: its number, its arena and the greatest generation of its places
pub record Kind : Type 0 where
  pub number : ℕ
  pub arena : ℕ
  pub greatest : ℕ

abbrev pub is_some_place : List ℕ → Bool
is_some_place [] = false
is_some_place (x ∷ xs) = true

-- a page with these lists has a place to give out
abbrev pub has_place : PageLists → Bool
has_place lists = is_some_place (listed lists)

-- all pages, over all segments that there may be
unfoldable pub all_pages : List ℕ
all_pages = range_with_len 0 PAGES

-- the pages of a segment by their numbers, rising
unfoldable pub pages_in : ℕ → List ℕ
pages_in segment = range_with_len (segment * SEGMENT_PAGES) SEGMENT_PAGES

module _ {S : Type 0} (number : S → ℕ) where
  abbrev pub is_of : ℕ → Kept S → Bool
  is_of segment k = number k.slots == segment

  abbrev pub kind_of : Kept S → Kind
  kind_of k = record { number = number k.slots; arena = k.arena; greatest = k.greatest }

  abbrev pub kinds : List (Kept S) → List Kind
  kinds segments = map kind_of segments

  -- the segment of this number, if it is held
  abbrev pub segment_in : List (Kept S) → ℕ → Option (Kept S)
  segment_in segments segment = find (is_of segment) segments

  abbrev pub is_held : List (Kept S) → ℕ → Bool
  is_held segments segment = is_some (segment_in segments segment)

  abbrev pub lists_by : Option (Kept S) → ℕ → PageLists
  lists_by None page = no_lists
  lists_by (Some k) page = lists_at k.lists page

  -- the lists of a page, by its number over all segments; there are none where its segment isn't
  -- held
  abbrev pub lists_on : List (Kept S) → ℕ → PageLists
  lists_on segments page =
      lists_by (segment_in segments (segment_of_page page)) (page % SEGMENT_PAGES)

  abbrev pub class_by : Option (Kept S) → ℕ → Option ℕ
  class_by None page = None
  class_by (Some k) page = class_in k.classes page

  -- the class of a page
  abbrev pub class_on : List (Kept S) → ℕ → Option ℕ
  class_on segments page =
      class_by (segment_in segments (segment_of_page page)) (page % SEGMENT_PAGES)

  -- each page has the lists that it had
  abbrev pub KeepsLists : List (Kept S) → List (Kept S) → Type 0
  KeepsLists old new = (page : ℕ) → lists_on new page ≡ lists_on old page

  -- each page but one does
  abbrev pub KeepsOtherLists : ℕ → List (Kept S) → List (Kept S) → Type 0
  KeepsOtherLists page old new =
      (other : ℕ) → other ≢ page → lists_on new other ≡ lists_on old other

  abbrev pub greatest_by : Option (Kept S) → ℕ
  greatest_by None = 0
  greatest_by (Some k) = k.greatest

  -- the greatest generation of the places of a segment
  abbrev pub greatest_in : List (Kept S) → ℕ → ℕ
  greatest_in segments segment = greatest_by (segment_in segments segment)

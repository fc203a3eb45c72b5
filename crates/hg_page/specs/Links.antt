-- The links of a page's lists in the words of its segment.
use Rattle.std.specs.Prelude.{◌≡◌, ℕ, ◌+◌, ◌*◌, ◌<◌, ◌≤◌, true, false, List, [], ◌∷◌, ◌++◌}
use Rattle.std.specs.Prelude.{length, slice_index, slice_index_or, count_by}
use Rattle.std.specs.List.{AllByRecursion}
use Rattle.hg_place.specs.declared.geometry.TheConstants.{PAGE_WORDS, PAGE_PLACES, SEGMENT_WORDS}
use Rattle.hg_lists.specs.Chains.{chain, IsChain}
use Rattle.hg_lists.specs.Repeats.{HasNoRepeats}
use Rattle.hg_page.specs.declared.page.Page.{Page}
use Rattle.hg_size.specs.Sizes.{pages_of}
use Rattle.hg_page.specs.Shapes.{shape_of, start_of}
use Rattle.hg_page.specs.PageLists.{PageLists}

-- the link that stands in the first word of a block
abbrev pub link_at : Page → List ℕ → ℕ → ℕ
link_at p words index = slice_index words (start_of (shape_of p) index)

-- the lists of a page, as the words link them
abbrev pub lists_of : Page → List ℕ → PageLists
lists_of p words = record {
  free = chain PAGE_PLACES (link_at p words) p.free;
  local_free = chain PAGE_PLACES (link_at p words) p.local;
  used = p.used;
}

-- the last index of a list; that of no list is any
abbrev pub last_of : ℕ → List ℕ → ℕ
last_of before [] = before
last_of before (x ∷ xs) = last_of x xs

-- an index that may stand on a list: there is such a block, and it isn't used
abbrev pub IsSpare : Page → ℕ → Type 0
IsSpare p index = (index < p.places) × (slice_index_or p.used index true ≡ false)

-- what a page keeps of its lists: its blocks lie in the pages that they may lie over, and these in
-- the segment; both lists are linked to their ends, no index stands on them twice, and none that is
-- used
pub record Links (p : Page) (words free local_free : List ℕ) : Type 0 where
  pub sized : 1 ≤ p.size
  pub count : p.places ≤ PAGE_PLACES
  pub fits : p.size * p.places ≤ pages_of p.size * PAGE_WORDS
  pub within : p.base + pages_of p.size * PAGE_WORDS ≤ SEGMENT_WORDS
  pub whole : length words ≡ SEGMENT_WORDS
  pub freed : IsChain (link_at p words) p.free free
  pub locals : IsChain (link_at p words) p.local local_free
  pub free_end : last_of p.free_end free ≡ p.free_end
  pub local_end : last_of p.local_end local_free ≡ p.local_end
  pub apart : HasNoRepeats (free ++ local_free)
  pub spare : AllByRecursion (IsSpare p) (free ++ local_free)
  pub flags : length p.used ≡ PAGE_PLACES
  pub counted : p.in_use ≡ count_by (λ b. b) p.used
  pub used : (index : ℕ) → slice_index_or p.used index false ≡ true → index < p.places
  pub room : length free + length local_free + p.in_use ≤ p.places

-- the lists that the words show are linked
abbrev pub IsLinked : Page → List ℕ → Type 0
IsLinked p words = Links p words (lists_of p words).free (lists_of p words).local_free

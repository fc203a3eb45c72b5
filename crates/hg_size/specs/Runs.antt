-- Pages by number, over which a block of an earlier page lies. Each page has a class, the size of
-- its blocks, or none.
use Rattle.std.specs.Prelude.{◌≡◌, ℕ, ◌+◌, ◌-◌, ◌%◌, ◌≤◌, ◌&&◌, Bool, true, false, not, nat_lt, nat_le}
use Rattle.std.specs.Prelude.{Option, Some, None, is_none}
use Rattle.std.specs.List.{list_any, list_all, range_with_len}
use Rattle.hg_place.specs.declared.geometry.TheConstants.{SEGMENT_PAGES}
use Rattle.hg_size.specs.Sizes.{pages_of}

-- a block of a page of this class reaches over the page so many behind it
abbrev pub reaches : Option ℕ → ℕ → Bool
reaches None behind = false
reaches (Some size) behind = nat_lt behind (pages_of size)

-- an earlier page of the segment has a class whose block reaches over the page
unfoldable pub is_covered : (ℕ → Option ℕ) → ℕ → Bool
is_covered class page =
    list_any (λ back. reaches (class (page - back)) back) (range_with_len 1 (page % SEGMENT_PAGES))

-- the page is without a class: it has none, and isn't covered
abbrev pub is_blank : (ℕ → Option ℕ) → ℕ → Bool
is_blank class page = is_none (class page) && not (is_covered class page)

-- a page may get the class of a size: the pages of its blocks are those of one segment, and each of
-- them is without a class
unfoldable pub may_begin : (ℕ → Option ℕ) → ℕ → ℕ → Bool
may_begin class size page =
    nat_le (page % SEGMENT_PAGES + pages_of size) SEGMENT_PAGES
    && list_all (λ ahead. is_blank class (page + ahead)) (range_with_len 0 (pages_of size))

-- the blocks of the page end in its segment, and where it is covered it has no class
pub record IsRunAt (class : ℕ → Option ℕ) (page : ℕ) : Type 0 where
  pub inside :
      (size : ℕ) → class page ≡ Some size → page % SEGMENT_PAGES + pages_of size ≤ SEGMENT_PAGES
  pub covered : is_covered class page ≡ true → class page ≡ None

-- so it is with each page
abbrev pub AreRuns : (ℕ → Option ℕ) → Type 0
AreRuns class = (page : ℕ) → IsRunAt class page

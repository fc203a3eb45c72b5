-- The lists of a page, by index.
use Rattle.std.specs.Prelude.{◌≡◌, ℕ, Bool, true, false, not, List, [], ◌∷◌, ◌++◌, filter}
use Rattle.std.specs.Prelude.{slice_index_or, slice_set, replicate}
use Rattle.std.specs.List.{range_with_len}
use Rattle.hg_place.specs.declared.geometry.TheConstants.{PAGE_PLACES}

-- the free places, those freed since, and by index which are used
pub record PageLists : Type 0 where
  pub free : List ℕ
  pub local_free : List ℕ
  pub used : List Bool

-- the indexes of both lists
abbrev pub listed : PageLists → List ℕ
listed lists = lists.free ++ lists.local_free

abbrev pub IsUsed : PageLists → ℕ → Type 0
IsUsed lists index = slice_index_or lists.used index false ≡ true

-- no index is used
abbrev pub IsIdle : PageLists → Type 0
IsIdle lists = (index : ℕ) → slice_index_or lists.used index false ≡ false

-- the indexes from one on, so many, that aren't worn
abbrev pub unworn : List Bool → ℕ → ℕ → List ℕ
unworn worn from count =
    filter (λ index. not (slice_index_or worn index false)) (range_with_len from count)

-- the index came off the head of `free`, and is used
pub record Pops (index : ℕ) (old new : PageLists) : Type 0 where
  pub free : old.free ≡ index ∷ new.free
  pub local_free : new.local_free ≡ old.local_free
  pub used : new.used ≡ slice_set old.used index true

-- the index is used no more
abbrev pub unused : PageLists → ℕ → PageLists
unused lists index = record lists { used = slice_set lists.used index false }

-- the index, used no more, is in front of `local_free`
abbrev pub pushed : PageLists → ℕ → PageLists
pushed lists index = record (unused lists index) { local_free = index ∷ lists.local_free }

-- `local_free` is behind `free`
abbrev pub spliced : PageLists → PageLists
spliced lists = record lists { free = lists.free ++ lists.local_free; local_free = [] }

-- these are free, in this order, and no index is used
abbrev pub fresh : List ℕ → PageLists
fresh free = record { free = free; local_free = []; used = replicate PAGE_PLACES false }

-- nothing is on a list but these, which are free
abbrev pub freed : PageLists → List ℕ → PageLists
freed lists free = record lists { free = free; local_free = [] }

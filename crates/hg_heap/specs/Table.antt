-- The table from the number of a segment to where it stands in a heap.
use Rattle.std.specs.Prelude.{◌≡◌, ℕ, ◌<◌, false, List, length, slice_index_or, Option, Some, None}
use Rattle.std.specs.Prelude.{count_by, is_some, map}
use Rattle.std.specs.List.{position_or_len}
use Rattle.hg_place.specs.declared.geometry.TheConstants.{MAX_SEGMENTS}
use Rattle.hg_lists.specs.Repeats.{HasNoRepeats}
use Rattle.hg_segment.specs.Kept.{Kept}
use Rattle.hg_heap.specs.Held.{is_of, is_held}

module _ {S : Type 0} (number : S → ℕ) where
  -- where the segment of this number stands: first of all that have it, or nowhere
  abbrev pub IsAt : List (Kept S) → ℕ → Option ℕ → Type 0
  IsAt segments segment None = is_held number segments segment ≡ false
  IsAt segments segment (Some found) =
      (found < length segments) × (found ≡ position_or_len (is_of number segment) segments)

  -- the table has each number, and as many entries as there are segments; no two have one number
  pub record IsTabled (table : List (Option ℕ)) (segments : List (Kept S)) : Type 0 where
    pub all : length table ≡ MAX_SEGMENTS
    pub each :
        (segment : ℕ) → segment < MAX_SEGMENTS
        → IsAt segments segment (slice_index_or table segment None)
    pub many : count_by is_some table ≡ length segments
    pub once : HasNoRepeats (map (λ k. number k.slots) segments)

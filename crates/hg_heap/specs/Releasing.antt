-- What a heap has when a segment has left it.
use Rattle.std.specs.Prelude.{ℕ, ◌==◌, Bool, not, List, filter, map, swap_remove}
use Rattle.std.specs.Prelude.{Option, Some, None}
use Rattle.std.specs.List.{position_or_len}
use Rattle.hg_place.specs.Places.{segment_of_page}
use Rattle.hg_segment.specs.Kept.{Kept}
use Rattle.hg_heap.specs.Held.{is_of, segment_in}

-- the page, by its number over all segments, is of another segment
abbrev pub is_of_other : ℕ → ℕ → Bool
is_of_other segment page = not (segment_of_page page == segment)

-- the queues without the pages of a segment
abbrev pub without_pages : ℕ → List (List ℕ) → List (List ℕ)
without_pages segment queues = map (filter (is_of_other segment)) queues

module _ {S : Type 0} (number : S → ℕ) where
  -- without the first segment of this number: the last stands in its place
  abbrev pub without_by : List (Kept S) → ℕ → Option (Kept S) → List (Kept S)
  without_by segments segment None = segments
  without_by segments segment (Some one) =
      swap_remove segments (position_or_len (is_of number segment) segments) one

  -- the segments without the one of this number, if it is held
  abbrev pub without_segment : List (Kept S) → ℕ → List (Kept S)
  without_segment segments segment =
      without_by segments segment (segment_in number segments segment)

-- The pages of a segment that comes to a heap.
use Rattle.std.specs.Prelude.{ℕ, ◌*◌, ◌%◌, ◌==◌, ◌&&◌, Bool, false, List, filter, Option, Some}
use Rattle.std.specs.Prelude.{None}
use Rattle.std.specs.List.{range_with_len}
use Rattle.hg_place.specs.declared.geometry.TheConstants.{SEGMENT_PAGES}
use Rattle.hg_size.specs.Sizes.{number_of_size}
use Rattle.hg_size.specs.SizeLaws.{key_of}
use Rattle.hg_segment.specs.Kept.{Kept, lists_at}
use Rattle.hg_segment.specs.Kept.{class_at as class_in}
use Rattle.hg_heap.specs.Held.{has_place}

abbrev pub is_key_of : ℕ → Option ℕ → ℕ → Bool
is_key_of arena None key = false
is_key_of arena (Some size) key = key_of arena (number_of_size size) == key

module _ {S : Type 0} (number : S → ℕ) where
  -- those of this key that have a place to give out, rising, by their numbers over all segments
  unfoldable pub pages_of_key : Kept S → ℕ → List ℕ
  pages_of_key k key =
      filter (λ page. is_key_of k.arena (class_in k.classes (page % SEGMENT_PAGES)) key
      && has_place (lists_at k.lists (page % SEGMENT_PAGES)))
      (range_with_len (number k.slots * SEGMENT_PAGES) SEGMENT_PAGES)

-- Where a heap has a segment.
use Rattle.std.specs.Prelude.{◌≡◌, ℕ, ◌<◌, List, length}
use Rattle.std.specs.List.{position_or_len}
use Rattle.hg_segment.specs.Kept.{Kept}
use Rattle.hg_heap.specs.Held.{is_of}

module _ {S : Type 0} (number : S → ℕ) where
  -- the first segment of this number stands there
  pub record IsFoundAt (segments : List (Kept S)) (segment found : ℕ) : Type 0 where
    pub inside : found < length segments
    pub first : found ≡ position_or_len (is_of number segment) segments

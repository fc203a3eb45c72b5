-- What a pool keeps: segments by their number, and lists of numbers.
use Rattle.std.specs.Prelude.{◌≡◌, ℕ, List, ◌++◌, length, Contains, Option, Some, None}
use Rattle.std.specs.Prelude.{slice_index_or}
use Rattle.std.specs.List.{filter_map}
use Rattle.hg_place.specs.declared.geometry.TheConstants.{MAX_SEGMENTS}
use Rattle.hg_lists.specs.Repeats.{HasNoRepeats}
use Rattle.hg_segment.specs.Kept.{Kept}
use Rattle.hg_pool.specs.Pooled.{IsRising}

-- what stands where a number says
abbrev pub at_number : {X : Type 0} → List (Option X) → ℕ → Option X
at_number segments number = slice_index_or segments number None

-- the segments of some numbers
abbrev pub shown : {X : Type 0} → List (Option X) → List ℕ → List X
shown segments numbers = filter_map (at_number segments) numbers

-- each segment stands where its number says, and its number on one of both lists, once
pub record IsKept {S : Type 0} (number : S → ℕ) (segments : List (Option (Kept S)))
    (orphans fresh : List ℕ) : Type 0 where
  pub all : length segments ≡ MAX_SEGMENTS
  pub numbered :
      (at : ℕ) (one : Kept S) → at_number segments at ≡ Some one → number one.slots ≡ at
  pub there :
      (at : ℕ) → Contains (orphans ++ fresh) at
      → (one : Kept S) × (at_number segments at ≡ Some one)
  pub listed :
      (at : ℕ) (one : Kept S) → at_number segments at ≡ Some one
      → Contains (orphans ++ fresh) at
  pub once : HasNoRepeats (orphans ++ fresh)
  pub rising : IsRising fresh

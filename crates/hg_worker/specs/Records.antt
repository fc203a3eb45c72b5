-- Which places go home by a call.
use Rattle.std.specs.Prelude.{◌≡◌, ℕ, true, false, List, Some}
use Rattle.hg_place.specs.declared.standing.Standing.{Standing}
use Rattle.hg_place.specs.Standings.{is_home}
use Rattle.hg_segment.specs.Kept.{Kept}
use Rattle.hg_heap.specs.Records.{record_in}

module _ {S : Type 0} (number : S → ℕ) (records : S → List Standing) where
  -- each place that was recorded as open and is recorded as home now is one of these
  abbrev pub GoHome : (ℕ → Type 0) → List (Kept S) → List (Kept S) → Type 0
  GoHome These old new =
      (place : ℕ) (before after : Standing) → record_in number records old place ≡ Some before
      → is_home before ≡ false → record_in number records new place ≡ Some after
      → is_home after ≡ true → These place

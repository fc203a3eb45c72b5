-- The slot words of a held segment have become others.
use Rattle.std.specs.Prelude.{◌≡◌, ◌↔◌, ℕ, List, Some, slice_get, slice_set}
use Rattle.hg_place.specs.declared.standing.Standing.{Standing}
use Rattle.hg_segment.specs.Kept.{Kept}

-- The slot words of the segment of this number have become others by this change, with the same number,
-- the same records and the same words to find; all else of the segment is as it was, and so are the other
-- segments
pub record SlotsChanged {S : Type 0} (number : S → ℕ) (records : S → List Standing)
    (shows : S → ℕ → ℕ → Type 0) (segment : ℕ) (change : S → S → Type 0) (old new : List (Kept S))
    : Type 0 where
  pub found : ℕ
  pub one : Kept S
  pub slots : S
  pub at : slice_get old found ≡ Some one
  pub now : new ≡ slice_set old found (record one { slots = slots })
  pub numbered : number one.slots ≡ segment
  pub same_number : number slots ≡ number one.slots
  pub same_records : records slots ≡ records one.slots
  pub same_shown : (slot word : ℕ) → shows one.slots slot word ↔ shows slots slot word
  pub changed : change one.slots slots

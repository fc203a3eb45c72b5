-- A place of a held segment that slot words and others have met at.
use Rattle.std.specs.Prelude.{◌≡◌, ℕ, List, Some, slice_get, slice_set}
use Rattle.hg_place.specs.declared.Place.{Place}
use Rattle.hg_place.specs.declared.standing.Standing.{Standing}
use Rattle.hg_place.specs.Standings.{slot_of}
use Rattle.hg_segment.specs.Kept.{Kept}

module _ {S Other : Type 0} (number : S → ℕ) (records : S → List Standing)
    (shows : S → ℕ → ℕ → Type 0) (meets : S → Other → ℕ → ℕ → S → Other → Type 0) where
  -- the slot words of the place's segment and the other met at it, and saw one word; all else of the
  -- segment is as it was, and so are the other segments
  pub record Met (place : Place) (word : ℕ) (old : List (Kept S)) (other : Other)
      (new : List (Kept S)) (after : Other) : Type 0 where
    pub found : ℕ
    pub one : Kept S
    pub slots : S
    pub at : slice_get old found ≡ Some one
    pub now : new ≡ slice_set old found (record one { slots = slots })
    pub segment : number one.slots ≡ place.segment
    pub same_number : number slots ≡ number one.slots
    pub same_records : records slots ≡ records one.slots
    pub shown : shows one.slots (slot_of place) word
    pub met : meets one.slots other (slot_of place) word slots after

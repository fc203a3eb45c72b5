-- A place that a heap gave out, and what it left of the other places of its segment.
use Rattle.std.specs.Prelude.{◌≡◌, ◌≢◌, ℕ, ◌-◌, ◌<◌, false, List, Some, replicate}
use Rattle.hg_place.specs.declared.geometry.TheConstants.{SEGMENT_PAGES, PAGE_PLACES}
use Rattle.hg_place.specs.declared.geometry.TheConstants.{SEGMENT_PLACES}
use Rattle.hg_place.specs.declared.Handle.{Handle}
use Rattle.hg_place.specs.declared.Place.{Place}
use Rattle.hg_place.specs.declared.standing.Standing.{Standing}
use Rattle.hg_place.specs.declared.standing.Standing.TheVariants.{Home, Open}
use Rattle.hg_place.specs.Lives.{live_word}
use Rattle.hg_place.specs.Standings.{slot_of, standing_at, is_home}
use Rattle.hg_segment.specs.Kept.{Kept, slot, class_at}
use Rattle.hg_segment.specs.Blocks.{block_at}
use Rattle.hg_heap.specs.Ties.{Stepped}

module _ {S : Type 0} (number : S → ℕ) (records : S → List Standing) where
  -- the place is open, on a page of this class, and its block is all 0; the other places stand as
  -- they stood, their open blocks have the words that they had, and the other pages their classes
  pub record IsGiven (one last : Kept S) (place : Place) (size generation owner : ℕ) : Type 0 where
    pub number_kept : number last.slots ≡ number one.slots
    pub standings :
        (other : ℕ) → other < SEGMENT_PLACES → other ≢ slot_of place
        → standing_at (records last.slots) other ≡ standing_at (records one.slots) other
    pub standing : standing_at (records last.slots) (slot_of place) ≡ Open generation owner
    pub classes :
        (page : ℕ) → page ≢ place.page → class_at last.classes page ≡ class_at one.classes page
    pub class : class_at last.classes place.page ≡ Some size
    pub blocks :
        (page index : ℕ) → page < SEGMENT_PAGES → index < PAGE_PLACES
        → slot page index ≢ slot_of place
        → is_home (standing_at (records last.slots) (slot page index)) ≡ false
        → block_at last.words last.classes page index ≡ block_at one.words one.classes page index
    pub zeroed : block_at last.words last.classes place.page place.index ≡ replicate size 0

  module _ (shows : S → ℕ → ℕ → Type 0) (steps : S → ℕ → ℕ → ℕ → S → Type 0) where
    -- one step began the next life of a place that was home
    pub record IsAllotted (size owner : ℕ) (handle : Handle) (old new : List (Kept S))
        : Type 0 where
      pub word : ℕ
      pub stepped :
          Stepped number shows steps handle.place word (live_word handle.generation owner) old new
      pub given : IsGiven stepped.before stepped.after handle.place size handle.generation owner
      pub home :
          standing_at (records stepped.before.slots) (slot_of handle.place)
          ≡ Home (handle.generation - 1)

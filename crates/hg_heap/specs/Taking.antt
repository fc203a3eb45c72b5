-- What was sent to a segment of a heap is taken in.
use Rattle.std.specs.Prelude.{◌≡◌, ◌⊎◌, ℕ, ◌+◌, ◌*◌, ◌==◌, List, [], ◌∷◌, Some}
use Rattle.std.specs.Prelude.{slice_get, slice_set}
use Rattle.hg_place.specs.declared.geometry.TheConstants.{SEGMENT_PAGES}
use Rattle.hg_place.specs.declared.standing.Standing.{Standing}
use Rattle.hg_place.specs.Places.{page_of, index_of}
use Rattle.hg_place.specs.Standings.{standing_at, standing_generation}
use Rattle.hg_size.specs.Sizes.{number_of_size}
use Rattle.hg_size.specs.SizeLaws.{key_of}
use Rattle.hg_segment.specs.Kept.{Kept, IsFixed, slot, class_at, lists_at, returned}
use Rattle.hg_segment.specs.Takes.{Took, Passed}
use Rattle.hg_segment.specs.Blocks.{KeepsBlocks}
use Rattle.hg_heap.specs.Held.{Held, has_place}
use Rattle.hg_heap.specs.Requeued.{requeued}

module _ {S : Type 0} (records : S → List Standing) (shows : S → ℕ → ℕ → Type 0)
    (steps : S → ℕ → ℕ → ℕ → S → Type 0) where
  -- The place was open and one step found its life ended: it is home in its generation, and its
  -- index in front of `local_free`, or on no list where that generation is the greatest. The blocks
  -- that are still open have the words that they had, and nothing else of the segment has changed
  pub record WentHome (page index : ℕ) (old new : Kept S) : Type 0 where
    pub took : Took records shows steps (slot page index) old.slots new.slots
    pub fixed : IsFixed old new
    pub lists :
        new.lists
        ≡ slice_set old.lists page
        (returned
        (standing_generation (standing_at (records old.slots) (slot page index)) == old.greatest)
        (lists_at old.lists page) index)
    pub blocks : KeepsBlocks (records new.slots) old.classes old.words new.words

  -- it was home, or one step found it live: records, words and lists are as they were
  pub record StayedAway (page index : ℕ) (old new : Kept S) : Type 0 where
    pub passed : Passed records shows steps (slot page index) old.slots new.slots
    pub rest : new ≡ record old { slots = new.slots }

module _ {S : Type 0} (number : S → ℕ) where
  -- the segment of this number is another of that number; the other segments are as they were, and
  -- all stand in their order
  pub record IsAnother (segment : ℕ) (old new : List (Kept S)) : Type 0 where
    pub found : ℕ
    pub before : Kept S
    pub after : Kept S
    pub at : slice_get old found ≡ Some before
    pub now : new ≡ slice_set old found after
    pub number_is : number before.slots ≡ segment
    pub number_kept : number after.slots ≡ segment

module _ {S : Type 0} (number : S → ℕ) (records : S → List Standing) (shows : S → ℕ → ℕ → Type 0)
    (steps : S → ℕ → ℕ → ℕ → S → Type 0) where
  -- a place of the segment came home, and its page stands in the queue where it belongs
  pub record IsTaken (segment page index : ℕ) (old new : Held S) : Type 0 where
    pub another : IsAnother number segment old.segments new.segments
    pub home : WentHome records shows steps page index another.before another.after
    pub size : ℕ
    pub class : class_at another.before.classes page ≡ Some size
    pub queues :
        new.queues
        ≡ requeued (key_of another.before.arena (number_of_size size))
        (segment * SEGMENT_PAGES + page) (has_place (lists_at another.after.lists page)) old.queues

  -- it was passed over, and all queues are as they were
  pub record IsPassed (segment page index : ℕ) (old new : Held S) : Type 0 where
    pub another : IsAnother number segment old.segments new.segments
    pub away : StayedAway records shows steps page index another.before another.after
    pub queues : new.queues ≡ old.queues

  -- the places of the segment one after the other, each taken or passed over; and how many were
  -- taken
  abbrev pub Takes : ℕ → List ℕ → Held S → Held S → ℕ → Type 0
  Takes segment [] old new count = (new ≡ old) × (count ≡ 0)
  Takes segment (place ∷ places) old new count =
      (mid : Held S) × (n : ℕ) × Takes segment places mid new n
      × ((IsTaken segment (page_of place) (index_of place) old mid × (count ≡ n + 1))
      ⊎ (IsPassed segment (page_of place) (index_of place) old mid × (count ≡ n)))

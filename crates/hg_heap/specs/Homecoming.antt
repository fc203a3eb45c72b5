-- What a take leaves of the places of a segment. Which ones come home is Takes's.
use Rattle.std.specs.Prelude.{◌≡◌, ◌≢◌, ℕ, false, List, length, Contains, Some}
use Rattle.hg_place.specs.declared.standing.Standing.{Standing}
use Rattle.hg_place.specs.declared.standing.Standing.TheVariants.{Home}
use Rattle.hg_place.specs.Standings.{standing_at, is_home, standing_generation}
use Rattle.hg_lists.specs.Repeats.{HasNoRepeats}
use Rattle.hg_segment.specs.Kept.{Kept, IsFixed}
use Rattle.hg_segment.specs.Blocks.{KeepsBlocks}
use Rattle.hg_heap.specs.Held.{kinds, segment_in}

module _ {S : Type 0} (records : S → List Standing) where
  -- the place was sent and open, and is home in its generation
  pub record IsHomeAgain (sent : List ℕ) (old new : Kept S) (place : ℕ) : Type 0 where
    pub was_sent : Contains sent place
    pub was_open : is_home (standing_at (records old.slots) place) ≡ false
    pub home :
        standing_at (records new.slots) place
        ≡ Home (standing_generation (standing_at (records old.slots) place))

  -- So many places, each once, came home; each other place has the record that it had. The blocks
  -- that are still open have the words that they had; arena, greatest generation and classes stay
  pub record AreHomeAgain (sent : List ℕ) (count : ℕ) (old new : Kept S) : Type 0 where
    pub came : List ℕ
    pub once : HasNoRepeats came
    pub many : count ≡ length came
    pub each : (place : ℕ) → Contains came place → IsHomeAgain sent old new place
    pub others :
        (place : ℕ) → ¬ Contains came place
        → standing_at (records new.slots) place ≡ standing_at (records old.slots) place
    pub fixed : IsFixed old new
    pub blocks : KeepsBlocks (records new.slots) old.classes old.words new.words

module _ {S : Type 0} (number : S → ℕ) (records : S → List Standing) where
  -- so of the segment of this number; the other segments are as they were, and all stand in their
  -- order
  pub record HaveComeHome (segment : ℕ) (sent : List ℕ) (old new : List (Kept S)) (count : ℕ)
      : Type 0 where
    pub before : Kept S
    pub after : Kept S
    pub was : segment_in number old segment ≡ Some before
    pub now : segment_in number new segment ≡ Some after
    pub home : AreHomeAgain records sent count before after
    pub others :
        (other : ℕ) → other ≢ segment → segment_in number new other ≡ segment_in number old other
    pub order : kinds number new ≡ kinds number old

-- What is kept of a segment, and a worker's view of the segments in its heap.
use Rattle.std.specs.Prelude.{ℕ, ◌/◌, ◌%◌, ◌==◌, Bool, List, [], Option, Some, None, find, is_some}
use Rattle.hg_place.specs.declared.geometry.TheConstants.{SEGMENT_PLACES, SEGMENT_PAGES}
use Rattle.hg_place.specs.declared.geometry.TheConstants.{PAGE_PLACES}
use Rattle.hg_place.specs.Places.{segment_of, segment_of_page}
use Rattle.hg_place.specs.Standings.{standing_at}
use Rattle.hg_machine.specs.Policy.{Policy}
use Rattle.hg_place.specs.declared.standing.Standing.{Standing}
use Rattle.hg_place.specs.declared.standing.Standing.TheVariants.{Home, Open}
use Rattle.hg_segment.specs.Kept.{Kept, class_at}
use Rattle.hg_segment.specs.Blocks.{block_at}
use Rattle.hg_agreement.specs.Views.{View}

-- a segment: its number, the standing of each of its places, the class of each of its pages, and
-- the words of these
pub record Holding : Type 0 where
  pub number : ℕ
  pub standings : List Standing
  pub classes : List (Option ℕ)
  pub words : List ℕ

-- a segment as its callers see it, of this number and with these records of its places
abbrev pub holding_from : {S : Type 0} → ℕ → List Standing → Kept S → Holding
holding_from number standings s =
    record { number = number; standings = standings; classes = s.classes; words = s.words }

-- the class of a page, by its number in the segment
abbrev pub class_of : Holding → ℕ → Option ℕ
class_of h page = class_at h.classes page

-- the words of the block of a place that stands so, where an open one has these: none at home
abbrev pub block_by : Standing → List ℕ → List ℕ
block_by (Home generation) words = []
block_by (Open generation owner) words = words

-- the words of the block at a place, by its number in the segment
abbrev pub block_of : Holding → ℕ → List ℕ
block_of h at =
    block_by (standing_at h.standings at)
    (block_at h.words h.classes (at / PAGE_PLACES) (at % PAGE_PLACES))

-- the segment of that number, where it is among these
abbrev pub holding_of : List Holding → ℕ → Option Holding
holding_of holdings segment = find (λ h. h.number == segment) holdings

abbrev pub has : List Holding → ℕ → Bool
has holdings segment = is_some (holding_of holdings segment)

-- what is told of a page or place where its segment is there, by its number within that
abbrev pub class_told : Option Holding → ℕ → Option ℕ
class_told None page = None
class_told (Some h) page = class_of h page

abbrev pub standing_told : Option Holding → ℕ → Standing
standing_told None at = Home 0
standing_told (Some h) at = standing_at h.standings at

abbrev pub block_told : Option Holding → ℕ → List ℕ
block_told None at = []
block_told (Some h) at = block_of h at

-- a worker's view, by the segments in its heap
abbrev pub view_of : Policy → ℕ → Option ℕ → ℕ → List Holding → View
view_of policy worker hand hand_generation holdings = record {
  policy = policy;
  worker = worker;
  holds = has holdings;
  class = λ page. class_told (holding_of holdings (segment_of_page page)) (page % SEGMENT_PAGES);
  standing = λ place.
      standing_told (holding_of holdings (segment_of place)) (place % SEGMENT_PLACES);
  block = λ place. block_told (holding_of holdings (segment_of place)) (place % SEGMENT_PLACES);
  hand = hand;
  hand_generation = hand_generation;
}

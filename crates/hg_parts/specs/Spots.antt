-- A segment where it stands in a core's parts, and another that comes in its place.
use Rattle.std.specs.Prelude.{◌≡◌, ◌≢◌, ℕ, ◌+◌, ◌*◌, ◌/◌, ◌<◌, List, Option, Some, length}
use Rattle.std.specs.Prelude.{slice_get, slice_set, slice_index_or}
use Rattle.hg_place.specs.declared.geometry.TheConstants.{SEGMENT_PLACES, SEGMENT_PAGES}
use Rattle.hg_place.specs.declared.geometry.TheConstants.{PAGE_PLACES}
use Rattle.hg_machine.specs.State.{with_record}
use Rattle.hg_agreement.specs.Holdings.{class_of}
use Rattle.hg_agreement.specs.Parts.{Plain, Parts, heap_at, plain_of, record_by, state_of, IsWordIn}
use Rattle.hg_agreement.specs.PlainPut.{IsSwap, with_plain}
use Rattle.hg_parts.specs.Rights.{IsSegmentRight}
use Rattle.hg_parts.specs.Tidy.{IsTidy}

-- where a segment stands: in a worker's heap, or in the pool; each at an index
pub data Spot : Type 0 where
  in_heap : ℕ → ℕ → Spot
  in_orphans : ℕ → Spot
  in_fresh : ℕ → Spot

abbrev pub segment_at : Parts → Spot → Option Plain
segment_at parts (in_heap worker found) = slice_get (heap_at parts worker) found
segment_at parts (in_orphans found) = slice_get parts.orphans found
segment_at parts (in_fresh found) = slice_get parts.fresh found

abbrev pub heaps_with : Parts → Spot → Plain → List (List Plain)
heaps_with parts (in_heap worker found) now =
    slice_set parts.heaps worker (slice_set (heap_at parts worker) found now)
heaps_with parts (in_orphans found) now = parts.heaps
heaps_with parts (in_fresh found) now = parts.heaps

abbrev pub orphans_with : Parts → Spot → Plain → List Plain
orphans_with parts (in_heap worker found) now = parts.orphans
orphans_with parts (in_orphans found) now = slice_set parts.orphans found now
orphans_with parts (in_fresh found) now = parts.orphans

abbrev pub fresh_with : Parts → Spot → Plain → List Plain
fresh_with parts (in_heap worker found) now = parts.fresh
fresh_with parts (in_orphans found) now = parts.fresh
fresh_with parts (in_fresh found) now = slice_set parts.fresh found now

-- the parts with another segment there, and with these hands
abbrev pub with_segment : Parts → Spot → Plain → List (Option ℕ) → Parts
with_segment parts spot now hands = record parts {
  heaps = heaps_with parts spot now;
  orphans = orphans_with parts spot now;
  fresh = fresh_with parts spot now;
  hands = hands;
}

-- the segment that stands there, and the one that comes in its place: of the same number, and right
pub record IsSpotSwap (parts : Parts) (spot : Spot) (one now : Plain) : Type 0 where
  pub there : segment_at parts spot ≡ Some one
  pub number : now.holding.number ≡ one.holding.number
  pub right : IsSegmentRight parts.policy now

-- they tell the same of all places but this one
pub record IsSpotPut (parts : Parts) (spot : Spot) (one now : Plain) (at : ℕ) : Type 0 where
  pub swap : IsSpotSwap parts spot one now
  pub below : at < SEGMENT_PLACES
  pub others :
      (other : ℕ) → other < SEGMENT_PLACES → other ≢ at
      → record_by (Some now) other ≡ record_by (Some one) other

-- of tidy parts it is the segment of its number, one of the policy's, wherever it stands
abbrev pub SpotIsFound : Type 0
SpotIsFound =
    (parts : Parts) (spot : Spot) (one : Plain) → IsTidy parts → segment_at parts spot ≡ Some one
    → (one.holding.number < length parts.policy.segments)
    × (plain_of parts one.holding.number ≡ Some one)

-- and the slot word that it has is one that a step on the place may show
abbrev pub SpotShowsItsWord : Type 0
SpotShowsItsWord =
    (parts : Parts) (spot : Spot) (one : Plain) (at : ℕ) → IsTidy parts
    → segment_at parts spot ≡ Some one → at < SEGMENT_PLACES
    → IsWordIn parts (record {
      place = one.holding.number * SEGMENT_PLACES + at;
      word = slice_index_or one.slots at 0;
    })

-- in a heap of tidy parts a segment is the first of its number, as the laws of swaps there want it
abbrev pub SpotIsSwap : Type 0
SpotIsSwap =
    (parts : Parts) (worker found : ℕ) (one now : Plain) → IsTidy parts
    → slice_get (heap_at parts worker) found ≡ Some one
    → now.holding.number ≡ one.holding.number
    → IsSwap parts worker found one now

-- where all classes are the same, the state has another record of that place, these hands and
-- nothing else, wherever the segment stands
abbrev pub SpotPutIsRecord : Type 0
SpotPutIsRecord =
    (parts : Parts) (spot : Spot) (one now : Plain) (at : ℕ) (hands : List (Option ℕ))
    → IsTidy parts → IsSpotPut parts spot one now at
    → ((page : ℕ) → page < SEGMENT_PAGES → class_of now.holding page ≡ class_of one.holding page)
    → state_of (with_segment parts spot now hands)
    ≡ record (with_record (state_of parts) (one.holding.number * SEGMENT_PLACES + at)
    (record_by (Some now) at)) { hands = hands }

-- where only the class of the place's own page may be another, as at the first block of a page, the
-- state has that record and that class
abbrev pub HeapPutIsPut : Type 0
HeapPutIsPut =
    (parts : Parts) (worker found : ℕ) (one now : Plain) (at : ℕ) → IsTidy parts
    → IsSpotPut parts (in_heap worker found) one now at
    → ((page : ℕ) → page < SEGMENT_PAGES → page ≢ at / PAGE_PLACES
    → class_of now.holding page ≡ class_of one.holding page)
    → state_of (with_plain parts worker found now)
    ≡ record (state_of parts) {
      records = slice_set (state_of parts).records (one.holding.number * SEGMENT_PLACES + at)
          (record_by (Some now) at);
      classes = slice_set (state_of parts).classes
          (one.holding.number * SEGMENT_PAGES + at / PAGE_PLACES)
          (class_of now.holding (at / PAGE_PLACES));
    }

-- What a change of one place of a held segment is in the state of a core.
use Rattle.std.specs.Prelude.{◌≡◌, ◌≢◌, ℕ, ◌+◌, ◌*◌, ◌/◌, ◌%◌, ◌==◌, ◌<◌, length, Option, Some}
use Rattle.std.specs.Prelude.{slice_get, slice_set, map, if◌then◌else◌}
use Rattle.std.specs.List.{position_or_len}
use Rattle.hg_place.specs.declared.geometry.TheConstants.{SEGMENT_PLACES, SEGMENT_PAGES}
use Rattle.hg_place.specs.declared.geometry.TheConstants.{PAGE_PLACES}
use Rattle.hg_place.specs.Places.{segment_of, segment_of_page}
use Rattle.hg_machine.specs.Life.{Record}
use Rattle.hg_machine.specs.State.{with_record, record_at, class_at, places_in, pages_in}
use Rattle.hg_agreement.specs.Holdings.{class_of}
use Rattle.hg_agreement.specs.Parts.{Plain, Parts, is_of, heap_at, record_by, state_of, IsSorted}

-- the parts with another segment at this index of the worker's heap
abbrev pub with_plain : Parts → ℕ → ℕ → Plain → Parts
with_plain parts worker found now = record parts {
  heaps = slice_set parts.heaps worker (slice_set (heap_at parts worker) found now);
}

-- the one that stands there, the first of its number, and the one that comes in its place, of the
-- same number
pub record IsSwap (parts : Parts) (worker found : ℕ) (one now : Plain) : Type 0 where
  pub worker_below : worker < length parts.heaps
  pub there : slice_get (heap_at parts worker) found ≡ Some one
  pub first : found ≡ position_or_len (is_of one.holding.number) (heap_at parts worker)
  pub number : now.holding.number ≡ one.holding.number

-- what is told of a place, and of a page, where this segment has come in
abbrev pub record_now : Parts → Plain → ℕ → Record
record_now parts now place =
    if segment_of place == now.holding.number
    then record_by (Some now) (place % SEGMENT_PLACES)
    else record_at (state_of parts) place

abbrev pub class_now : Parts → Plain → ℕ → Option ℕ
class_now parts now page =
    if segment_of_page page == now.holding.number
    then class_of now.holding (page % SEGMENT_PAGES)
    else class_at (state_of parts) page

-- then the states differ in what is told of that segment, as after a Take or a Collect
abbrev pub SwapIsMap : Type 0
SwapIsMap =
    (parts : Parts) (worker found : ℕ) (one now : Plain) → IsSorted parts
    → IsSwap parts worker found one now
    → state_of (with_plain parts worker found now)
    ≡ record (state_of parts) {
      records = map (record_now parts now) (places_in (state_of parts));
      classes = map (class_now parts now) (pages_in (state_of parts));
    }

-- and they tell the same of all places but this one and all pages but its own
pub record IsPut (parts : Parts) (worker found : ℕ) (one now : Plain) (at : ℕ) : Type 0 where
  pub swap : IsSwap parts worker found one now
  pub below : at < SEGMENT_PLACES
  pub others :
      (other : ℕ) → other < SEGMENT_PLACES → other ≢ at
      → record_by (Some now) other ≡ record_by (Some one) other
  pub classes :
      (page : ℕ) → page < SEGMENT_PAGES → page ≢ at / PAGE_PLACES
      → class_of now.holding page ≡ class_of one.holding page

-- then the states differ in the record of the place and the class of its page
abbrev pub PutIsPut : Type 0
PutIsPut =
    (parts : Parts) (worker found : ℕ) (one now : Plain) (at : ℕ) → IsSorted parts
    → IsPut parts worker found one now at
    → state_of (with_plain parts worker found now)
    ≡ record (state_of parts) {
      records = slice_set (state_of parts).records (one.holding.number * SEGMENT_PLACES + at)
          (record_by (Some now) at);
      classes = slice_set (state_of parts).classes
          (one.holding.number * SEGMENT_PAGES + at / PAGE_PLACES)
          (class_of now.holding (at / PAGE_PLACES));
    }

-- and in the record alone, where the class is the same
abbrev pub PutIsRecord : Type 0
PutIsRecord =
    (parts : Parts) (worker found : ℕ) (one now : Plain) (at : ℕ) → IsSorted parts
    → IsPut parts worker found one now at
    → class_of now.holding (at / PAGE_PLACES) ≡ class_of one.holding (at / PAGE_PLACES)
    → state_of (with_plain parts worker found now)
    ≡ with_record (state_of parts) (one.holding.number * SEGMENT_PLACES + at)
    (record_by (Some now) at)

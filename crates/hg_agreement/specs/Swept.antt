-- What a Collect is in the state of a core.
use Rattle.std.specs.Prelude.{◌≡◌, ℕ, ◌*◌, ◌<◌, Bool, List, length, Some, None, map, slice_get}
use Rattle.std.specs.Prelude.{slice_set, if◌then◌else◌}
use Rattle.std.specs.List.{list_all, range_with_len}
use Rattle.hg_place.specs.declared.geometry.TheConstants.{SEGMENT_PLACES, SEGMENT_PAGES}
use Rattle.hg_place.specs.declared.geometry.TheConstants.{PAGE_PLACES}
use Rattle.hg_machine.specs.State.{pages_in}
use Rattle.hg_machine.specs.Sweeps.{cleared}
use Rattle.hg_place.specs.Standings.{standing_at, is_home}
use Rattle.hg_agreement.specs.Holdings.{class_of}
use Rattle.hg_agreement.specs.Parts.{Plain, Parts, heap_at, record_by, state_of, IsSorted}

-- each place of the page is free
abbrev pub is_idle_of : Plain → ℕ → Bool
is_idle_of one page =
    list_all (λ at. is_home (standing_at one.holding.standings at))
    (range_with_len (page * PAGE_PLACES) PAGE_PLACES)

-- the same segment, whose idle pages have lost their class
pub record IsSwept (one now : Plain) : Type 0 where
  pub number : now.holding.number ≡ one.holding.number
  pub records : (at : ℕ) → at < SEGMENT_PLACES → record_by (Some now) at ≡ record_by (Some one) at
  pub classes :
      (page : ℕ) → page < SEGMENT_PAGES
      → class_of now.holding page
      ≡ (if is_idle_of one page then None else class_of one.holding page)

-- all segments of a heap, in their order
pub record AreSwept (heap after : List Plain) : Type 0 where
  pub long : length after ≡ length heap
  pub each :
      (found : ℕ) (one now : Plain) → slice_get heap found ≡ Some one
      → slice_get after found ≡ Some now → IsSwept one now

-- the parts with this heap for the worker
abbrev pub with_heap : Parts → ℕ → List Plain → Parts
with_heap parts worker heap = record parts { heaps = slice_set parts.heaps worker heap }

-- then the worker's idle pages are cleared, and nothing else has changed
abbrev pub SweptIsCleared : Type 0
SweptIsCleared =
    (parts : Parts) (worker : ℕ) (heap : List Plain) → IsSorted parts
    → worker < length parts.heaps → AreSwept (heap_at parts worker) heap
    → state_of (with_heap parts worker heap)
    ≡ record (state_of parts) {
      classes = map (cleared (state_of parts) worker) (pages_in (state_of parts));
    }

-- The parts of a core at its opening.
use Rattle.std.specs.Prelude.{◌≡◌, ℕ, ◌<◌, [], length, Some, None, find, replicate}
use Rattle.std.specs.List.{range_with_len}
use Rattle.hg_place.specs.declared.geometry.TheConstants.{SEGMENT_PLACES, SEGMENT_PAGES}
use Rattle.hg_machine.specs.Life.{never_used}
use Rattle.hg_machine.specs.State.{opening}
use Rattle.hg_agreement.specs.Holdings.{class_of}
use Rattle.hg_agreement.specs.Parts.{Plain, Parts, is_of, heap_at, record_by, state_of, IsSorted}
use Rattle.hg_agreement.specs.LeftPut.{numbers}
use Rattle.hg_agreement.specs.Pool.{IsPooled}

-- no heap has a segment, each of the policy's is fresh and was never used, and no hand is taken
pub record IsUnused (parts : Parts) : Type 0 where
  pub heaps : (worker : ℕ) → heap_at parts worker ≡ []
  pub orphans : parts.orphans ≡ []
  pub fresh : numbers parts.fresh ≡ range_with_len 0 (length parts.policy.segments)
  pub records :
      (segment at : ℕ) (one : Plain) → find (is_of segment) parts.fresh ≡ Some one
      → at < SEGMENT_PLACES
      → record_by (Some one) at ≡ never_used
  pub classes :
      (segment page : ℕ) (one : Plain) → find (is_of segment) parts.fresh ≡ Some one
      → page < SEGMENT_PAGES
      → class_of one.holding page ≡ None
  pub hands : parts.hands ≡ replicate parts.policy.workers None

-- these are the machine's opening, in order
abbrev pub UnusedIsOpening : Type 0
UnusedIsOpening =
    (parts : Parts) → IsUnused parts
    → (state_of parts ≡ opening parts.policy) × IsSorted parts × IsPooled parts

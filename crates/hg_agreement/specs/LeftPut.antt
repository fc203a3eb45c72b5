-- What a change of one place of a segment that nobody holds is in the state of a core.
use Rattle.std.specs.Prelude.{◌≡◌, ◌≢◌, ℕ, ◌+◌, ◌*◌, ◌<◌, List, ◌++◌, length, Some, None, map}
use Rattle.std.specs.Prelude.{slice_get, slice_set}
use Rattle.std.specs.List.{position_or_len}
use Rattle.hg_place.specs.declared.geometry.TheConstants.{SEGMENT_PLACES, SEGMENT_PAGES}
use Rattle.hg_machine.specs.State.{with_record}
use Rattle.hg_agreement.specs.Holdings.{class_of}
use Rattle.hg_agreement.specs.Parts.{Plain, Parts, is_of, worker_of, record_by, state_of}

-- the parts with these in the pool
abbrev pub with_left : Parts → List Plain → List Plain → Parts
with_left parts orphans fresh = record parts { orphans = orphans; fresh = fresh }

abbrev pub numbers : List Plain → List ℕ
numbers = map (λ one. one.holding.number)

-- the one that stands in the pool, the first of its number, which no heap has, and the one that
-- comes in its place: they have the same number, and tell the same of all places but this one
pub record IsLeftPut
    (parts : Parts) (orphans fresh : List Plain) (found : ℕ) (one now : Plain) (at : ℕ)
    : Type 0 where
  pub inside : one.holding.number < length parts.policy.segments
  pub unheld : worker_of parts one.holding.number ≡ None
  pub there : slice_get (parts.orphans ++ parts.fresh) found ≡ Some one
  pub first : found ≡ position_or_len (is_of one.holding.number) (parts.orphans ++ parts.fresh)
  pub now_there : orphans ++ fresh ≡ slice_set (parts.orphans ++ parts.fresh) found now
  pub order : numbers orphans ≡ numbers parts.orphans
  pub number : now.holding.number ≡ one.holding.number
  pub below : at < SEGMENT_PLACES
  pub others :
      (other : ℕ) → other < SEGMENT_PLACES → other ≢ at
      → record_by (Some now) other ≡ record_by (Some one) other
  pub classes :
      (page : ℕ) → page < SEGMENT_PAGES → class_of now.holding page ≡ class_of one.holding page

-- then the states differ in the record of the place
abbrev pub LeftPutIsRecord : Type 0
LeftPutIsRecord =
    (parts : Parts) (orphans fresh : List Plain) (found : ℕ) (one now : Plain) (at : ℕ)
    → IsLeftPut parts orphans fresh found one now at
    → state_of (with_left parts orphans fresh)
    ≡ with_record (state_of parts) (one.holding.number * SEGMENT_PLACES + at)
    (record_by (Some now) at)

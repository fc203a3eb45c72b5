-- When a worker may leave.
use Rattle.std.specs.Prelude.{◌≡◌, ℕ, ◌<◌, true, false, None}
use Rattle.hg_place.specs.declared.geometry.TheConstants.{MAX_SEGMENTS}
use Rattle.hg_heap.specs.Held.{is_held}
use Rattle.hg_worker.specs.Seats.{number_in}
use Rattle.hg_worker.specs.declared.state.WorkerState.{WorkerState}

-- it holds none of the segments below a number
abbrev pub HoldsNoneBelow : WorkerState → ℕ → Type 0
HoldsNoneBelow state number =
    (segment : ℕ) → segment < number → is_held number_in state.heap.segments segment ≡ false

-- it holds none of the segments that there may be
abbrev pub HoldsNone : WorkerState → Type 0
HoldsNone state = HoldsNoneBelow state MAX_SEGMENTS

-- the segment is the lowest that it holds
pub record HoldsFirst (segment : ℕ) (state : WorkerState) : Type 0 where
  pub below : segment < MAX_SEGMENTS
  pub held : is_held number_in state.heap.segments segment ≡ true
  pub lower : HoldsNoneBelow state segment

-- it holds none and has nothing in hand
pub record IsIdle (state : WorkerState) : Type 0 where
  pub holds : HoldsNone state
  pub hand : state.hand ≡ None

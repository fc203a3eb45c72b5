-- What a worker's call may change of what workers share.
use Rattle.std.specs.Prelude.{◌≡◌, ◌≢◌, ℕ, Some, MatchOption, slice_get}
use Rattle.hg_machine.specs.declared.Event.{Event}
use Rattle.hg_machine.specs.declared.Event.TheVariants as event
use Rattle.hg_worker.specs.declared.state.WorkerState.{WorkerState}
use Rattle.hg_hosted.specs.declared.shared.Shared.{Shared}
use Rattle.hg_hosted.specs.declared.worker.HostedWorker.{HostedWorker}
use Rattle.hg_hosted.specs.Places.{HaveSamePlaces}
use Rattle.hg_hosted.specs.Waiting.{NeedsShared}

-- of what is shared only the list of this segment changes
pub record TouchesList (segment : ℕ) (old new : Shared) : Type 0 where
  pub segments : new.segments ≡ old.segments
  pub left : new.left ≡ old.left
  pub others :
      (at : ℕ) → at ≢ segment
      → slice_get new.lists.items at ≡ slice_get old.lists.items at

-- only the segments that nobody holds
pub record TouchesSegments (old new : Shared) : Type 0 where
  pub lists : new.lists ≡ old.lists
  pub left : new.left ≡ old.left

-- what the event may change of what workers share: the list of the segment of what is in hand, that of
-- the segment that is taken in from, or the segments that nobody holds
abbrev pub Touches : Event → WorkerState → Shared → Shared → Type 0
Touches event.Deliver state old new =
    MatchOption state.hand (new ≡ old) (λ handle. TouchesList handle.place.segment old new)
Touches (event.Take segment) state old new = TouchesList segment old new
Touches (event.Abandon segment) state old new = TouchesSegments old new
Touches (event.Refill arena) state old new = TouchesSegments old new
Touches (event.Alloc actor arena bytes) state old new = new ≡ old
Touches (event.Free actor handle) state old new = new ≡ old
Touches event.Collect state old new = new ≡ old
Touches (event.Read actor handle index) state old new = new ≡ old
Touches (event.Write actor handle index value) state old new = new ≡ old
Touches (event.Look actor place) state old new = new ≡ old

-- by the state that the worker had; where the event needs nothing of that, nothing changes, and the
-- ways lead where they led
pub record Reaches (event : Event) (old new : HostedWorker) : Type 0 where
  pub alone :
      (own : _) → old.state ≡ Some own → ¬ NeedsShared event own.value → new.shared ≡ old.shared
  pub touched :
      (own : _) → old.state ≡ Some own → Touches event own.value old.shared new.shared
  pub places : HaveSamePlaces old.shared new.shared

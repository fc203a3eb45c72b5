-- When a worker's call may find that another has what it needs.
use Rattle.std.specs.Prelude.{◌≡◌, ◌≢◌, ◌<◌, true, None}
use Rattle.hg_heap.specs.Held.{is_held}
use Rattle.hg_machine.specs.declared.Event.{Event}
use Rattle.hg_machine.specs.declared.Event.TheVariants as event
use Rattle.hg_queue.specs.declared.page_queues.TheConstants.{ARENAS}
use Rattle.hg_worker.specs.Seats.{number_in}
use Rattle.hg_worker.specs.declared.state.WorkerState.{WorkerState}

-- something is in hand and goes to a list, a segment is held that is taken in from or given up, or
-- one is wanted of an arena that a policy may have; no other event needs what workers share
abbrev pub NeedsShared : Event → WorkerState → Type 0
NeedsShared event.Deliver state = state.hand ≢ None
NeedsShared (event.Take segment) state = is_held number_in state.heap.segments segment ≡ true
NeedsShared (event.Abandon segment) state = is_held number_in state.heap.segments segment ≡ true
NeedsShared (event.Refill arena) state = arena < ARENAS
NeedsShared (event.Alloc actor arena bytes) state = ⊥
NeedsShared (event.Free actor handle) state = ⊥
NeedsShared event.Collect state = ⊥
NeedsShared (event.Read actor handle index) state = ⊥
NeedsShared (event.Write actor handle index value) state = ⊥
NeedsShared (event.Look actor place) state = ⊥

-- the event needs what workers share, and nothing is done
pub record Waits (event : Event) (old new : WorkerState) : Type 0 where
  pub needs : NeedsShared event old
  pub same : new ≡ old

-- What a core does at a Take, a Refill and an Abandon is a step of the machine.
use Rattle.std.specs.Prelude.{◌≡◌, ◌≢◌, ℕ, ◌<◌, List, length, Some, None, find, slice_index_or}
use Rattle.hg_machine.specs.declared.Event.TheVariants as event
use Rattle.hg_machine.specs.declared.Answer.TheVariants as answer
use Rattle.hg_machine.specs.Lists.{IsPartition}
use Rattle.hg_machine.specs.Soundness.{IsSound}
use Rattle.hg_machine.specs.Steps.{Step}
use Rattle.hg_agreement.specs.Seen.{idle_pages_in}
use Rattle.hg_agreement.specs.Holdings.{view_of}
use Rattle.hg_agreement.specs.Parts.{Plain, Remote, Parts, is_of, heap_at, remote_at, state_of}
use Rattle.hg_agreement.specs.Parts.{kept_of}
use Rattle.hg_agreement.specs.Parts.{holdings, IsSorted}
use Rattle.hg_agreement.specs.Swept.{AreSwept, with_heap}
use Rattle.hg_agreement.specs.PlainPut.{with_plain}
use Rattle.hg_agreement.specs.Moves.{with_orphan, IsLetGo}
use Rattle.hg_agreement.specs.Pool.{IsPooled, next_in, with_adopted, IsTakenUp}
use Rattle.hg_agreement.specs.TakenIn.{remote_places, IsTakenIn}

-- taking in a remote list is a Take, answered by its length
abbrev pub TakeIsStep : Type 0
TakeIsStep =
    (parts : Parts) (worker found : ℕ) (one now : Plain) (remotes : List Remote)
    → IsSorted parts → IsPartition (kept_of parts) → IsTakenIn parts worker found one now
    → Step (state_of parts) worker (event.Take one.holding.number)
    (answer.Taken (length (remote_places (remote_at parts one.holding.number))))
    (state_of (record (with_plain parts worker found now) { remotes = remotes }))

-- letting a segment go is an Abandon
abbrev pub LetGoIsStep : Type 0
LetGoIsStep =
    (parts : Parts) (worker : ℕ) (heap : List Plain) (one : Plain) → IsSorted parts
    → IsLetGo parts worker heap one
    → Step (state_of parts) worker (event.Abandon one.holding.number) answer.Done
    (state_of (with_orphan parts worker heap one))

-- the first of the pool that is of the arena, and the heap that comes in place of the worker's: it
-- has the segment, and all others as before
pub record IsRefilled (parts : Parts) (worker arena : ℕ) (heap : List Plain) (one : Plain)
    : Type 0 where
  pub worker_below : worker < length parts.heaps
  pub next : next_in parts arena ≡ Some one
  pub came : find (is_of one.holding.number) heap ≡ Some one
  pub others :
      (segment : ℕ) → segment ≢ one.holding.number
      → find (is_of segment) heap ≡ find (is_of segment) (heap_at parts worker)

abbrev pub RefilledIsTakenUp : Type 0
RefilledIsTakenUp =
    (parts : Parts) (worker arena : ℕ) (heap : List Plain) (one : Plain)
    → IsRefilled parts worker arena heap one → IsTakenUp parts worker heap one

-- that is a Refill
abbrev pub RefillIsStep : Type 0
RefillIsStep =
    (parts : Parts) (worker arena : ℕ) (heap : List Plain) (one : Plain) → IsPooled parts
    → IsRefilled parts worker arena heap one
    → Step (state_of parts) worker (event.Refill arena) (answer.Refilled one.holding.number)
    (state_of (with_adopted parts worker heap one.holding.number))

-- and where the pool has none of the arena, it is refused
abbrev pub NoRefillIsStep : Type 0
NoRefillIsStep =
    (parts : Parts) (worker arena : ℕ) → IsPooled parts → next_in parts arena ≡ None
    → Step (state_of parts) worker (event.Refill arena) answer.NoSegment (state_of parts)

-- sweeping the worker's heap is a Collect, answered by the view's idle pages
abbrev pub SweptIsStep : Type 0
SweptIsStep =
    (parts : Parts) (worker generation : ℕ) (heap : List Plain) → IsSound (state_of parts)
    → IsSorted parts → worker < parts.policy.workers → worker < length parts.heaps
    → AreSwept (heap_at parts worker) heap
    → Step (state_of parts) worker event.Collect
    (answer.Pages
    (idle_pages_in
    (view_of parts.policy worker (slice_index_or parts.hands worker None) generation
    (holdings (heap_at parts worker)))))
    (state_of (with_heap parts worker heap))

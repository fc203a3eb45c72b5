-- How far a charge rises.
use Rattle.std.specs.Prelude.{◌≡◌, ◌⊎◌, ℕ, ◌+◌, ◌*◌, ◌==◌, ◌<◌, ◌≤◌, Bool, false, List, All}
use Rattle.hg_place.specs.declared.Actor.{Actor}
use Rattle.hg_place.specs.declared.Handle.{Handle}
use Rattle.hg_place.specs.declared.geometry.TheConstants.{WORD_BYTES}
use Rattle.hg_machine.specs.declared.Event.{Event}
use Rattle.hg_machine.specs.declared.Event.TheVariants as event
use Rattle.hg_machine.specs.declared.Answer.{Answer}
use Rattle.hg_machine.specs.declared.Answer.TheVariants as answer
use Rattle.hg_machine.specs.Policy.{limit_of}
use Rattle.hg_machine.specs.State.{State}
use Rattle.hg_machine.specs.Charge.{charge}
use Rattle.hg_machine.specs.Request.{size_of}
use Rattle.hg_machine.specs.Soundness.{IsSound}
use Rattle.hg_machine.specs.Steps.{Step, Run}

-- the event is a Refill of that heap, by its worker
abbrev pub is_refill_of : ℕ → ℕ → Event → Bool
is_refill_of heap worker (event.Refill arena) = worker == heap
is_refill_of heap worker event = false

-- a step that isn't a Refill of the heap leaves a tenant's charge there no higher than it was, or
-- within the limit
abbrev pub ChargesStayLow : Type 0
ChargesStayLow =
    (old : State) (worker : ℕ) (event : Event) (answer : Answer) (new : State) (heap tenant : ℕ)
    → IsSound old
    → is_refill_of heap worker event ≡ false
    → Step old worker event answer new
    → (charge new heap tenant ≤ charge old heap tenant)
    ⊎ (charge new heap tenant ≤ limit_of old.policy tenant)

-- an allocation raises its actor's charge by the bytes of its class, and to within the limit
abbrev pub AllocationsAreCharged : Type 0
AllocationsAreCharged =
    (old : State) (worker : ℕ) (actor : Actor) (arena bytes : ℕ) (handle : Handle) (new : State)
    → IsSound old
    → Step old worker (event.Alloc actor arena bytes) (answer.Block handle) new
    → (charge new worker actor.0 ≡ charge old worker actor.0 + WORD_BYTES * size_of bytes)
    × (charge new worker actor.0 ≤ limit_of old.policy actor.0)

-- so in a run without a Refill of the heap a tenant within its limit there stays within it
abbrev pub LimitsAreKept : Type 0
LimitsAreKept =
    (old : State) (events : List (ℕ × Event)) (answers : List Answer) (new : State)
    (heap tenant : ℕ)
    → IsSound old
    → All (λ e. e.0 < old.policy.workers) events
    → All (λ e. is_refill_of heap e.0 e.1 ≡ false) events
    → charge old heap tenant ≤ limit_of old.policy tenant
    → Run old events answers new
    → charge new heap tenant ≤ limit_of old.policy tenant

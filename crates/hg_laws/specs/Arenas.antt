-- What an actor gets of an arena that doesn't admit it.
use Rattle.std.specs.Prelude.{◌≡◌, ℕ, false, List, Option, Some, None}
use Rattle.hg_place.specs.declared.Actor.{Actor}
use Rattle.hg_place.specs.declared.Handle.{Handle}
use Rattle.hg_machine.specs.declared.Event.{Event}
use Rattle.hg_machine.specs.declared.Event.TheVariants as event
use Rattle.hg_machine.specs.declared.Answer.{Answer}
use Rattle.hg_machine.specs.declared.Answer.TheVariants as answer
use Rattle.hg_machine.specs.Policy.{Policy, arena_of, admits}
use Rattle.hg_machine.specs.State.{State}
use Rattle.hg_machine.specs.Denial.{is_admitted}
use Rattle.hg_machine.specs.Steps.{Step, Run}
use Rattle.hg_laws.specs.Asked.{actor_of, IsDenied}
use Rattle.hg_laws.specs.Along.{AtEach}

-- the arena in which an event asks for a block or names one
abbrev pub arena_asked : Policy → Event → Option ℕ
arena_asked p (event.Alloc actor arena bytes) = Some arena
arena_asked p (event.Free actor handle) = arena_of p handle.place.segment
arena_asked p (event.Read actor handle index) = arena_of p handle.place.segment
arena_asked p (event.Write actor handle index value) = arena_of p handle.place.segment
arena_asked p (event.Look actor place) = arena_of p place.segment
arena_asked p event = None

-- an actor's event in an arena that doesn't admit it is denied
abbrev pub DeniedOutside : Policy → Event → Answer → Type 0
DeniedOutside p e a =
    (actor : ℕ)
    → actor_of e ≡ Some actor
    → is_admitted p (arena_asked p e) actor ≡ false
    → IsDenied a

-- so is each such event of a run
abbrev pub ArenasAreIsolated : Type 0
ArenasAreIsolated =
    (old : State) (events : List (ℕ × Event)) (answers : List Answer) (new : State)
    → Run old events answers new
    → AtEach (DeniedOutside old.policy) events answers

-- whom no arena admits is denied whatever it asks for: no block, no word and no row
abbrev pub UnadmittedGetNothing : Type 0
UnadmittedGetNothing =
    (old : State) (events : List (ℕ × Event)) (answers : List Answer) (new : State) (actor : ℕ)
    → ((arena : ℕ) → admits old.policy arena actor ≡ false)
    → Run old events answers new
    → AtEach (λ e a. actor_of e ≡ Some actor → IsDenied a) events answers

-- a block that is answered lies in the arena that was asked for
abbrev pub BlocksLieInTheArena : Type 0
BlocksLieInTheArena =
    (old : State) (worker : ℕ) (actor : Actor) (arena bytes : ℕ) (handle : Handle) (new : State)
    → Step old worker (event.Alloc actor arena bytes) (answer.Block handle) new
    → arena_of old.policy handle.place.segment ≡ Some arena

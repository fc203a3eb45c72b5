-- What is served is what the policy lets the actor do.
use Rattle.std.specs.Prelude.{◌≡◌, ◌⊎◌, ℕ, true, None}
use Rattle.hg_place.specs.declared.Actor.{Actor}
use Rattle.hg_place.specs.declared.Handle.{Handle}
use Rattle.hg_place.specs.declared.Place.{Place}
use Rattle.hg_place.specs.declared.Right.{Right}
use Rattle.hg_place.specs.declared.Right.TheVariants as right
use Rattle.hg_place.specs.Places.{number_of}
use Rattle.hg_machine.specs.declared.Answer.{Answer}
use Rattle.hg_machine.specs.declared.Answer.TheVariants as answer
use Rattle.hg_machine.specs.declared.Event.TheVariants as event
use Rattle.hg_machine.specs.declared.Row.{Row}
use Rattle.hg_machine.specs.Life.{is_live, owner_of}
use Rattle.hg_machine.specs.State.{State, record_at}
use Rattle.hg_machine.specs.Denial.{denial}
use Rattle.hg_machine.specs.Steps.{Step}
use Rattle.hg_laws.specs.Integrity.{Permits}

-- the handle names the block that lives at its place, and the policy lets the actor use the right on
-- blocks of its owner there
pub record MayUse (s : State) (actor : ℕ) (right : Right) (handle : Handle) : Type 0 where
  pub lives : is_live (record_at s (number_of handle.place)).life ≡ true
  pub names_it : handle.generation ≡ (record_at s (number_of handle.place)).generation
  pub permits :
      Permits s.policy handle.place.segment (owner_of (record_at s (number_of handle.place)).life)
      actor right

-- a word is given only of a block that the actor may read
abbrev pub ReadsArePermitted : Type 0
ReadsArePermitted =
    (old : State) (worker : ℕ) (actor : Actor) (handle : Handle) (index value : ℕ) (new : State)
    → Step old worker (event.Read actor handle index) (answer.Value value) new
    → MayUse old actor.0 right.Read handle

-- a word is written only into a block that the actor may write
abbrev pub WritesArePermitted : Type 0
WritesArePermitted =
    (old : State) (worker : ℕ) (actor : Actor) (handle : Handle) (index value : ℕ) (new : State)
    → Step old worker (event.Write actor handle index value) answer.Done new
    → MayUse old actor.0 right.Write handle

-- a block is freed, at once or parted, only where the actor may free it
abbrev pub FreesArePermitted : Type 0
FreesArePermitted =
    (old : State) (worker : ℕ) (actor : Actor) (handle : Handle) (given : Answer) (new : State)
    → (given ≡ answer.Done) ⊎ (given ≡ answer.Parted)
    → Step old worker (event.Free actor handle) given new
    → MayUse old actor.0 right.Free handle

-- a row is of the place that was asked for, and of a block that the actor may list
abbrev pub LooksArePermitted : Type 0
LooksArePermitted =
    (old : State) (worker : ℕ) (actor : Actor) (place : Place) (row : Row) (new : State)
    → Step old worker (event.Look actor place) (answer.Listed row) new
    → (row.handle.place ≡ place) × MayUse old actor.0 right.List row.handle

-- and what the actor may use so is denied to it by no rule
abbrev pub PermittedIsAllowed : Type 0
PermittedIsAllowed =
    (s : State) (actor : ℕ) (right : Right) (handle : Handle)
    → MayUse s actor right handle
    → denial s actor right handle.place handle.generation ≡ None

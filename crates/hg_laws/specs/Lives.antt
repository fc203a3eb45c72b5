-- How often a place is given out, and which handles are ever served.
use Rattle.std.specs.Prelude.{◌≡◌, ◌≢◌, ◌⊎◌, ℕ, ◌+◌, ◌==◌, ◌<◌, ◌≤◌, Bool, false, List, Some, All}
use Rattle.std.specs.Prelude.{count_by}
use Rattle.hg_place.specs.declared.Actor.{Actor}
use Rattle.hg_place.specs.declared.Handle.{Handle}
use Rattle.hg_place.specs.Places.{number_of}
use Rattle.hg_machine.specs.declared.Event.{Event}
use Rattle.hg_machine.specs.declared.Event.TheVariants as event
use Rattle.hg_machine.specs.declared.Answer.{Answer}
use Rattle.hg_machine.specs.declared.Answer.TheVariants as answer
use Rattle.hg_machine.specs.Policy.{Policy}
use Rattle.hg_machine.specs.SoundPolicy.{IsSoundPolicy}
use Rattle.hg_machine.specs.State.{State, record_at, opening}
use Rattle.hg_machine.specs.Soundness.{IsSound}
use Rattle.hg_machine.specs.Steps.{Step, Run}
use Rattle.hg_laws.specs.Asked.{handle_of, IsDenied}

-- the answer gives the place out
abbrev pub gives_out : ℕ → Answer → Bool
gives_out place (answer.Block handle) = number_of handle.place == place
gives_out place a = false

-- how many of the answers do
abbrev pub times_given_out : ℕ → List Answer → ℕ
times_given_out place answers = count_by (gives_out place) answers

-- in a run the generation of a place rises by one each time that it is given out, and by nothing
-- else
abbrev pub LivesAreCounted : Type 0
LivesAreCounted =
    (old : State) (events : List (ℕ × Event)) (answers : List Answer) (new : State) (place : ℕ)
    → IsSound old
    → All (λ e. e.0 < old.policy.workers) events
    → Run old events answers new
    → (record_at new place).generation
    ≡ (record_at old place).generation + times_given_out place answers

-- so since the opening it is given out no more often than the policy says
abbrev pub LivesAreLimited : Type 0
LivesAreLimited =
    (policy : Policy) (events : List (ℕ × Event)) (answers : List Answer) (new : State) (place : ℕ)
    → IsSoundPolicy policy
    → All (λ e. e.0 < policy.workers) events
    → Run (opening policy) events answers new
    → times_given_out place answers ≤ policy.max_generation

-- a handle that was never answered since the opening is denied to all
abbrev pub ForgedIsDenied : Type 0
ForgedIsDenied =
    (policy : Policy) (events : List (ℕ × Event)) (answers : List Answer) (s next : State)
    (worker : ℕ) (event : Event) (given : Answer) (handle : Handle)
    → Run (opening policy) events answers s
    → All (λ a. a ≢ answer.Block handle) answers
    → handle_of event ≡ Some handle
    → Step s worker event given next
    → IsDenied given

-- and so is, from a served Free of it on, each handle that was freed
abbrev pub FreedIsDenied : Type 0
FreedIsDenied =
    (old mid : State) (worker : ℕ) (actor : Actor) (handle : Handle) (freed : Answer)
    (events : List (ℕ × Event)) (answers : List Answer) (s next : State)
    (other : ℕ) (asked : Event) (given : Answer)
    → (freed ≡ answer.Done) ⊎ (freed ≡ answer.Parted)
    → Step old worker (event.Free actor handle) freed mid
    → Run mid events answers s
    → handle_of asked ≡ Some handle
    → Step s other asked given next
    → IsDenied given

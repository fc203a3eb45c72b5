-- What leaves the state as it was.
use Rattle.std.specs.Prelude.{◌≡◌, ℕ, ◌||◌, Bool, true, false, List, ◌∷◌, ◌++◌, length}
use Rattle.hg_machine.specs.declared.Event.{Event}
use Rattle.hg_machine.specs.declared.Event.TheVariants as event
use Rattle.hg_machine.specs.declared.Answer.{Answer}
use Rattle.hg_machine.specs.State.{State}
use Rattle.hg_machine.specs.Steps.{Step, Run}
use Rattle.hg_laws.specs.Asked.{is_refusal}

-- the event only looks
abbrev pub is_reading : Event → Bool
is_reading (event.Read actor handle index) = true
is_reading (event.Look actor place) = true
is_reading event = false

-- it only looks, or was refused
abbrev pub changes_nothing : Event → Answer → Bool
changes_nothing event answer = is_reading event || is_refusal answer

-- what only looks or is refused leaves the state as it was
abbrev pub ReadingChangesNothing : Type 0
ReadingChangesNothing =
    (old : State) (worker : ℕ) (event : Event) (answer : Answer) (new : State)
    → changes_nothing event answer ≡ true
    → Step old worker event answer new
    → new ≡ old

-- so it may be dropped from a run: the answers before and after it stand as they were, and so does
-- the state at the end
abbrev pub ReadingMayBeDropped : Type 0
ReadingMayBeDropped =
    (old : State) (before after : List (ℕ × Event)) (worker : ℕ) (event : Event)
    (given later : List Answer) (answer : Answer) (new : State)
    → length before ≡ length given
    → changes_nothing event answer ≡ true
    → Run old (before ++ (worker, event) ∷ after) (given ++ answer ∷ later) new
    → Run old (before ++ after) (given ++ later) new

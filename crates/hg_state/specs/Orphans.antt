-- Which segments are orphans, by what events were answered.
use Rattle.std.specs.Prelude.{◌≡◌, ℕ, ◌==◌, not, List, [], ◌∷◌, ◌++◌, filter}
use Rattle.hg_machine.specs.declared.Answer.{Answer}
use Rattle.hg_machine.specs.declared.Answer.TheVariants as answer
use Rattle.hg_machine.specs.declared.Event.{Event}
use Rattle.hg_machine.specs.declared.Event.TheVariants as event
use Rattle.hg_machine.specs.Holders.{is_fresh}
use Rattle.hg_machine.specs.Soundness.{IsSound}
use Rattle.hg_machine.specs.State.{State, holder_at}
use Rattle.hg_machine.specs.Steps.{Step}
use Rattle.hg_replay.specs.declared.replaying.told.Told.{Told}
use Rattle.hg_replay.specs.declared.replaying.told.Told.TheVariants as told
use Rattle.hg_state.specs.Blocks.{is_apart}

-- a segment that is given up is the last orphan
abbrev pub given_up : List ℕ → ℕ → Answer → List ℕ
given_up orphans segment answer.Done = orphans ++ segment ∷ []
given_up orphans segment _ = orphans

-- and one that is taken is none
abbrev pub taken : List ℕ → Answer → List ℕ
taken orphans (answer.Refilled segment) = filter (λ other. not (other == segment)) orphans
taken orphans _ = orphans

-- the orphans after an event was answered so, oldest first, and after a line came to this
abbrev pub orphans_of : List ℕ → Event → Answer → List ℕ
orphans_of orphans (event.Abandon segment) a = given_up orphans segment a
orphans_of orphans (event.Refill arena) a = taken orphans a
orphans_of orphans _ a = orphans

abbrev pub orphans_after : List ℕ → Told → List ℕ
orphans_after orphans (told.One event answer) = orphans_of orphans event answer
orphans_after orphans _ = orphans

-- they are those of the machine
abbrev pub StepsTellOrphans : Type 0
StepsTellOrphans =
    (old new : State) (worker : ℕ) (event : Event) (answer : Answer)
    → Step old worker event answer new → new.orphans ≡ orphans_of old.orphans event answer

-- and a segment that nobody holds and that isn't among them is fresh
abbrev pub FreshAreApart : Type 0
FreshAreApart =
    (s : State) (segment : ℕ) → IsSound s
    → is_apart s s.orphans segment ≡ is_fresh (holder_at s segment)

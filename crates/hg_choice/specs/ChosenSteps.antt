-- The steps of the machine with their choices, and its runs.
use Rattle.std.specs.Prelude.{◌≡◌, ℕ, List, [], ◌∷◌, Some}
use Rattle.hg_place.specs.Places.{number_of}
use Rattle.hg_machine.specs.declared.Event.{Event}
use Rattle.hg_machine.specs.declared.Event.TheVariants as event
use Rattle.hg_machine.specs.declared.Answer.{Answer}
use Rattle.hg_machine.specs.declared.Answer.TheVariants as answer
use Rattle.hg_machine.specs.Request.{size_of}
use Rattle.hg_machine.specs.Steps.{Step}
use Rattle.hg_machine.specs.Lists.{Kept}
use Rattle.hg_choice.specs.Choice.{chosen_place}
use Rattle.hg_choice.specs.ListsAfter.{lists_after}
use Rattle.hg_choice.specs.QueuesAfter.{queues_after}

-- a block that is given out stands at the place of the order of choice
abbrev pub IsChosen : Kept → ℕ → Event → Answer → Type 0
IsChosen k worker (event.Alloc actor arena bytes) (answer.Block handle) =
    chosen_place k worker arena (size_of bytes) ≡ Some (number_of handle.place)
IsChosen k worker event answer = Unit {0}

-- From old, the worker's event is answered so, and leaves new: a step of the machine, at the place
-- of the order of choice, with lists and queues as they are after it
pub record ChosenStep (old : Kept) (worker : ℕ) (event : Event) (answer : Answer) (new : Kept)
    : Type 0 where
  pub step : Step old.state worker event answer new.state
  pub chosen : IsChosen old worker event answer
  pub lists : new.lists ≡ lists_after old worker event answer
  pub queues : new.queues ≡ queues_after old worker event answer

-- from old, the events of these workers are answered so one after another, and leave new
abbrev pub Chosen : Kept → List (ℕ × Event) → List Answer → Kept → Type 0
Chosen old [] [] new = new ≡ old
Chosen old (event ∷ events) (answer ∷ answers) new =
    (mid : Kept) × ChosenStep old event.0 event.1 answer mid × Chosen mid events answers new
Chosen old [] (answer ∷ answers) new = ⊥
Chosen old (event ∷ events) [] new = ⊥

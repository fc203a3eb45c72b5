-- An event that is refused: lists and queues are as they were.
use Rattle.std.specs.Prelude.{◌≡◌, ℕ, true}
use Rattle.hg_machine.specs.declared.Event.{Event}
use Rattle.hg_machine.specs.declared.Answer.{Answer}
use Rattle.hg_machine.specs.Steps.{Step}
use Rattle.hg_laws.specs.Asked.{is_refusal}
use Rattle.hg_agreement.specs.Parts.{state_of}
use Rattle.hg_events.specs.Core.{Core, parts_of}
use Rattle.hg_chosen.specs.Chosen.{IsChosenBy}

-- a step of a core to itself, answered by a refusal, is one with its choices
abbrev pub RefusedIsChosen : Type 0
RefusedIsChosen =
    (core : Core) (worker : ℕ) (event : Event) (answer : Answer) → is_refusal answer ≡ true
    → Step (state_of (parts_of core)) worker event answer (state_of (parts_of core))
    → IsChosenBy core worker event answer core

-- Laws of the runs with their choices.
use Rattle.std.specs.Prelude.{◌≡◌, ℕ, List}
use Rattle.hg_machine.specs.declared.Event.{Event}
use Rattle.hg_machine.specs.declared.Answer.{Answer}
use Rattle.hg_machine.specs.Steps.{Run}
use Rattle.hg_machine.specs.Lists.{Kept}
use Rattle.hg_choice.specs.ChosenSteps.{Chosen}

-- they are runs of the machine
abbrev pub ChosenRunsAreRuns : Type 0
ChosenRunsAreRuns =
    (old new : Kept) (events : List (ℕ × Event)) (answers : List Answer)
    → Chosen old events answers new
    → Run old.state events answers new.state

-- the events determine all answers, and what is kept afterwards
abbrev pub ChoicesAreDetermined : Type 0
ChoicesAreDetermined =
    (old new last : Kept) (events : List (ℕ × Event)) (answers given : List Answer)
    → Chosen old events answers new → Chosen old events given last
    → (given ≡ answers) × (last ≡ new)

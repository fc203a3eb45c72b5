-- A run goes on by one step, and so does one with its choices.
use Rattle.std.proofs.Common.{ℕ, List, [], ◌∷◌, ◌++◌, refl, subst}
use Rattle.hg_machine.specs.declared.Event.{Event}
use Rattle.hg_machine.specs.declared.Answer.{Answer}
use Rattle.hg_machine.specs.State.{State}
use Rattle.hg_machine.specs.Steps.{Step, Run}
use Rattle.hg_machine.specs.Lists.{Kept}
use Rattle.hg_choice.specs.ChosenSteps.{ChosenStep, Chosen}

pub run_more : (events : List (ℕ × Event)) (answers : List Answer) (old mid new : State)
    (event : ℕ × Event) (answer : Answer) → Run old events answers mid
    → Step mid event.0 event.1 answer new
    → Run old (events ++ event ∷ []) (answers ++ answer ∷ []) new
run_more [] [] old mid new e a run step = (new, subst (λ s. Step s e.0 e.1 a new) run step, refl)
run_more [] (a ∷ rest) old mid new event answer run step = absurd run
run_more (e ∷ es) [] old mid new event answer run step = absurd run
run_more (e ∷ es) (a ∷ rest) old mid new event answer run step =
    (run.0, run.1, run_more es rest run.0 mid new event answer run.2 step)

pub chosen_more : (events : List (ℕ × Event)) (answers : List Answer) (old mid new : Kept)
    (event : ℕ × Event) (answer : Answer) → Chosen old events answers mid
    → ChosenStep mid event.0 event.1 answer new
    → Chosen old (events ++ event ∷ []) (answers ++ answer ∷ []) new
chosen_more [] [] old mid new e a run step =
    (new, subst (λ k. ChosenStep k e.0 e.1 a new) run step, refl)
chosen_more [] (a ∷ rest) old mid new event answer run step = absurd run
chosen_more (e ∷ es) [] old mid new event answer run step = absurd run
chosen_more (e ∷ es) (a ∷ rest) old mid new event answer run step =
    (run.0, run.1, chosen_more es rest run.0 mid new event answer run.2 step)

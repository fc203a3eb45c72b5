-- Whom a core has, after a step.
use Rattle.std.proofs.Common.{ℕ, ◌<◌, sym, subst}
use Rattle.hg_machine.specs.Lists.{Kept}
use Rattle.hg_machine.specs.Policy.{Policy}
use Rattle.hg_machine.specs.declared.Answer.{Answer}
use Rattle.hg_machine.specs.declared.Event.{Event}
use Rattle.hg_machine.proofs.Preserves.{steps_keep_policy}
use Rattle.hg_choice.specs.ChosenSteps.{ChosenStep}

pub has_after :
    {old new : Kept} {worker : ℕ} {event : Event} {answer : Answer}
    → ChosenStep old worker event answer new → worker < old.state.policy.workers
    → worker < new.state.policy.workers
has_after {old} {new} {worker} {event} {answer} made has =
    subst (λ (p : Policy). worker < p.workers)
    (sym (steps_keep_policy old.state worker event answer new.state made.step)) has

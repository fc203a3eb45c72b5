-- A Read leaves all that is kept, and one that is refused is told so.
use Rattle.std.proofs.Common.{◌≡◌, ℕ, Option, Some, None, Err, ap, subst}
use Rattle.std.specs.Prelude.{Result, IfSome}
use Rattle.hg_place.specs.declared.Actor.{Actor}
use Rattle.hg_place.specs.declared.Handle.{Handle}
use Rattle.hg_heap.specs.declared.refused.Refused.{Refused}
use Rattle.hg_heap.specs.Answers.{read_answer, refused_answer}
use Rattle.hg_machine.specs.declared.Event.{Event}
use Rattle.hg_machine.specs.declared.Event.TheVariants as event
use Rattle.hg_machine.specs.declared.Answer.{Answer}
use Rattle.hg_machine.specs.Lists.{Kept}
use Rattle.hg_machine.proofs.Answered.{state_is_determined}
use Rattle.hg_choice.specs.ChosenSteps.{ChosenStep}
use Rattle.hg_chosen.specs.Chosen.{IsChosenBy}
use Rattle.hg_events.specs.Core.{Core}
use Rattle.hg_choice.proofs.ChoiceLemmas.{same_kept}

pub read_leaves : (k new : Kept) (worker : ℕ) (actor : Actor) (handle : Handle) (index : ℕ)
    (a : Answer)
    → ChosenStep k worker (event.Read actor handle index) a new → new ≡ k
read_leaves k new worker actor handle index a read =
    same_kept k new
    (state_is_determined k.state worker (event.Read actor handle index) a new.state read.step)
    read.lists read.queues

pub refused_told : (worker : ℕ) (e : Event) (old new : Core) (told : Result ℕ Refused)
    (o : Option Refused) → IsChosenBy old worker e (read_answer told) new
    → IfSome o (λ why. told ≡ Err why)
    → IfSome o (λ why. IsChosenBy old worker e (refused_answer why) new)
refused_told worker e old new told None read is = tt
refused_told worker e old new told (Some why) read is =
    subst (λ a. IsChosenBy old worker e a new) (ap read_answer is) read

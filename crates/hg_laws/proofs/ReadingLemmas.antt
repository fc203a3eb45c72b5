-- What only looks or is refused leaves the state.
use Rattle.std.proofs.Common.{◌≡◌, ℕ, inl, inr, true, [], ◌∷◌}
use Rattle.std.proofs.Common.{ap, subst, ◌∙◌, arith}
use Rattle.std.proofs.lemmas.Bool.{or_cases}
use Rattle.hg_machine.specs.declared.Event.{Event}
use Rattle.hg_machine.specs.declared.Event.TheVariants as event
use Rattle.hg_machine.specs.declared.Answer.{Answer}
use Rattle.hg_machine.specs.State.{State}
use Rattle.hg_machine.specs.Served.{IsServed}
use Rattle.hg_machine.specs.Steps.{successor, Run}
use Rattle.hg_machine.proofs.Cases.{step_cases}
use Rattle.hg_laws.specs.Reading.{is_reading, ReadingChangesNothing}
use Rattle.hg_laws.specs.Reading.{ReadingMayBeDropped}
use Rattle.hg_laws.proofs.Refusals.{was_refused}

served_reading : (s : State) (w : ℕ) (e : Event) (a : Answer) → is_reading e ≡ true → IsServed s w e a → successor s w e a ≡ s
served_reading s w (event.Read actor handle index) a looks is = ap (successor s w (event.Read actor handle index)) is
served_reading s w (event.Look actor place) a looks k = ap (successor s w (event.Look actor place)) k.1
served_reading s w (event.Alloc actor arena bytes) a looks k = absurd (cc)
served_reading s w (event.Free actor handle) a looks is = absurd (cc)
served_reading s w event.Deliver a looks is = absurd (cc)
served_reading s w (event.Take segment) a looks is = absurd (cc)
served_reading s w event.Collect a looks is = absurd (cc)
served_reading s w (event.Write actor handle index value) a looks is = absurd (cc)
served_reading s w (event.Abandon segment) a looks is = absurd (cc)
served_reading s w (event.Refill arena) a looks k = absurd (cc)

pub reading_changes_nothing : ReadingChangesNothing
reading_changes_nothing s w e a new idle h = elim (or_cases (is_reading e) _ idle) as (λ _. new ≡ s) [
  | inl looks ↦ elim (step_cases s w e a new h) as (λ _. new ≡ s) [
    | inl is ↦ is.after ∙ served_reading s w e a looks is.serves
    | inr is ↦ is.same
  ]
  | inr shut ↦ (was_refused s w e a new h shut).same
]

pub reading_may_be_dropped : ReadingMayBeDropped
reading_may_be_dropped old [] after w e [] later a new same idle run = subst (λ t. Run t after later new) (reading_changes_nothing old w e a run.0 idle run.1) run.2
reading_may_be_dropped old [] after w e (x ∷ given) later a new same idle run = absurd (omega arith)
reading_may_be_dropped old (d ∷ before) after w e [] later a new same idle run = absurd (omega arith)
reading_may_be_dropped old (d ∷ before) after w e (x ∷ given) later a new same idle run =
    (run.0, run.1, reading_may_be_dropped run.0 before after w e given later a new (omega arith) idle run.2)

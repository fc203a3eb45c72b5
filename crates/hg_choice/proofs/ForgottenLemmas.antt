-- Runs without words and values.
use Rattle.std.proofs.Common.{◌≡◌, inl, inr, ℕ, Bool, true, false, if◌then◌else◌, [], ◌∷◌, refl}
use Rattle.std.proofs.Common.{sym, ap, subst, ◌∙◌}
use Rattle.hg_machine.specs.declared.Event.{Event}
use Rattle.hg_machine.specs.declared.Event.TheVariants as event
use Rattle.hg_machine.specs.declared.Answer.{Answer}
use Rattle.hg_machine.specs.declared.Answer.TheVariants as answer
use Rattle.hg_machine.specs.State.{State}
use Rattle.hg_machine.specs.Holders.{holds}
use Rattle.hg_machine.specs.Served.{IsServed}
use Rattle.hg_machine.specs.Lists.{Kept}
use Rattle.hg_machine.proofs.Cases.{step_cases}
use Rattle.hg_laws.specs.Asked.{is_refusal}
use Rattle.hg_laws.proofs.Refusals.{refused_is}
use Rattle.hg_choice.specs.ChosenSteps.{ChosenStep, Chosen}
use Rattle.hg_choice.specs.WordLaws.{without_value, without_answer, without_values, without_answers}
use Rattle.hg_choice.specs.WordLaws.{without_words, WordsMayBeForgotten, ValuesShowInValues}
use Rattle.hg_choice.proofs.MaskedServes.{masked_event, masked_answer}
use Rattle.hg_choice.proofs.MaskedSteps.{masked_step}
use Rattle.hg_choice.proofs.Refusing.{answer_kept}
use Rattle.hg_choice.proofs.ChoiceLemmas.{choices_are_determined}

abbrev all : ℕ → Bool
all place = true

same_event : (e : Event) → masked_event all e ≡ without_value e
same_event (event.Write actor handle index value) = refl
same_event e = refl

abbrev IsForgotten : Event → Answer → Type 0
IsForgotten e a = masked_answer all e a ≡ without_answer a

free_forgotten : (e : Event) (b : Bool) (a : Answer)
    → a ≡ (if b then answer.Done else answer.Parted) → IsForgotten e answer.Done
    → IsForgotten e answer.Parted → IsForgotten e a
free_forgotten e true a is done away = subst (IsForgotten e) (sym is) done
free_forgotten e false a is done away = subst (IsForgotten e) (sym is) away

served_forgotten : (s : State) (w : ℕ) (e : Event) (a : Answer) → IsServed s w e a → IsForgotten e a
served_forgotten s w (event.Alloc actor arena bytes) a g =
    subst (IsForgotten (event.Alloc actor arena bytes)) (sym g.1) refl
served_forgotten s w (event.Free actor handle) a is =
    free_forgotten (event.Free actor handle) (holds s w handle.place.segment) a is refl refl
served_forgotten s w (event.Look actor place) a g =
    subst (IsForgotten (event.Look actor place)) (sym g.1) refl
served_forgotten s w (event.Refill arena) a g =
    subst (IsForgotten (event.Refill arena)) (sym g.1) refl
served_forgotten s w e a is = subst (IsForgotten e) (sym is) refl

refusal_forgotten : (a : Answer) → is_refusal a ≡ true → without_answer a ≡ a
refusal_forgotten (answer.Value value) is = absurd (cc)
refusal_forgotten a is = refl

same_answer : (k : Kept) (w : ℕ) (e : Event) (a : Answer) (new : Kept) → ChosenStep k w e a new
    → masked_answer all e a ≡ without_answer a
same_answer k w e a new step =
    elim (step_cases k.state w e a new.state step.step) as
    (λ _. masked_answer all e a ≡ without_answer a) [
      | inl is ↦ served_forgotten k.state w e a is.serves
      | inr is ↦
          let shut = refused_is k.state w e a is.some in
          answer_kept all e a shut ∙ sym (refusal_forgotten a shut)
    ]

forgotten_step : (k : Kept) (w : ℕ) (e : Event) (a : Answer) (new : Kept) → ChosenStep k w e a new
    → ChosenStep (without_words k) w (without_value e) (without_answer a) (without_words new)
forgotten_step k w e a new step =
    subst (λ b. ChosenStep (without_words k) w (without_value e) b (without_words new))
    (same_answer k w e a new step)
    (
    subst (λ f. ChosenStep (without_words k) w f (masked_answer all e a) (without_words new))
    (same_event e)
    (masked_step (λ segment owner. true) k w e a new step)
    )

pub words_may_be_forgotten : WordsMayBeForgotten
words_may_be_forgotten old new [] [] run = ap without_words run
words_may_be_forgotten old new [] (a ∷ answers) run = absurd run
words_may_be_forgotten old new (e ∷ events) [] run = absurd run
words_may_be_forgotten old new (e ∷ events) (a ∷ answers) run = (
  without_words run.0,
  forgotten_step old e.0 e.1 a run.0 run.1,
  words_may_be_forgotten run.0 new events answers run.2,
)

pub values_show_in_values : ValuesShowInValues
values_show_in_values old new last events others answers given same one second =
    choices_are_determined (without_words old) (without_words new) (without_words last)
    (without_values events) (without_answers answers) (without_answers given)
    (words_may_be_forgotten old new events answers one)
    (subst (λ es. Chosen (without_words old) es (without_answers given) (without_words last)) same
    (words_may_be_forgotten old last others given second))

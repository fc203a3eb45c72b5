-- Where there is a step of one of two banks that differ in hidden words there is one of the other.
use Rattle.std.proofs.Common.{◌≡◌, inl, inr, ℕ, List, [], ◌∷◌, Option, Some, None, refl, sym, ap}
use Rattle.std.proofs.Common.{subst, ◌∙◌, All}
use Rattle.std.specs.Prelude.{slice_get, option_map}
use Rattle.std.proofs.lemmas.Option.{none-some, slice_get-map}
use Rattle.hg_choice.specs.ChosenSteps.{ChosenStep, Chosen}
use Rattle.hg_choice.specs.Masks.{masked_kept}
use Rattle.hg_choice.specs.SameBut.{is_unreadable, IsSameBut, IsSameEvent}
use Rattle.hg_choice.proofs.SecondRuns.{second_runs_are}
use Rattle.hg_machine.specs.declared.Answer.{Answer}
use Rattle.hg_machine.specs.declared.Event.{Event}
use Rattle.hg_machine.specs.Lists.{Kept}
use Rattle.hg_bank.specs.Hidden.{masked_bank, IsSameRequest, SecondStepsAre}
use Rattle.hg_bank.specs.Requests.{Request, event_of, server, unserved}
use Rattle.hg_bank.specs.State.{BankState, with_core}
use Rattle.hg_bank.specs.Steps.{IsServedBy, BankStep, moved}
use Rattle.hg_bank.proofs.BankLemmas.{by_core, by_none}
use Rattle.hg_bank.proofs.HiddenLemmas.{servers, kept_alike, events_alike}
use Rattle.hg_bank.proofs.StepCases.{step_cases, at_number}

some_of : {A B : Type 0} (f : A → B) (o : Option A) (y : B) → option_map f o ≡ Some y
    → (x : A) × (o ≡ Some x)
some_of f None y e = absurd (none-some y e)
some_of f (Some x) y e = (x, refl)

-- the one step of a run over one event
step_of : (k : Kept) (worker : ℕ) (e : Event) (answers : List Answer) (last : Kept)
    → Chosen k ((worker, e) ∷ []) answers last
    → (b : Answer) × (next : Kept) × ChosenStep k worker e b next
step_of k worker e [] last run = absurd run
step_of k worker e (b ∷ answers) last run = (b, run.0, run.1)

module _ (actor : ℕ) (old other : BankState) (worker : ℕ) {one two : Request}
    (policies : All (λ k. k.state.policy ≡ old.policy) old.cores)
    (same : masked_bank (is_unreadable old.policy actor) other
    ≡ masked_bank (is_unreadable old.policy actor) old)
    (alike : IsSameRequest (is_unreadable old.policy actor) old one two) where
  abbrev IsAnswered : Type 0
  IsAnswered = (given : Answer) × (last : BankState) × BankStep other worker two given last

  other_there : (core : ℕ) (k : Kept) → slice_get old.cores core ≡ Some k
      → (m : Kept) × (slice_get other.cores core ≡ Some m)
  other_there core k there =
      let mask = masked_kept (is_unreadable old.policy actor) in
      some_of mask (slice_get other.cores core) (mask k)
      (sym (slice_get-map mask other.cores core)
      ∙ ap (λ b. slice_get b.cores core) same
      ∙ slice_get-map mask old.cores core ∙ ap (option_map mask) there)

  served_too : (told : Answer) (new : BankState) (core : ℕ)
      → server old worker one ≡ Some core → IsServedBy old worker one told new core → IsAnswered
  served_too told new core serves is =
      let k = is.was in
      let also = other_there core k is.there in
      let m = also.0 in
      let own = at_number (λ x. x.state.policy ≡ old.policy) old.cores core k policies is.there in
      let begin = subst (λ p. IsSameBut (is_unreadable p actor) k m) (sym own)
      (kept_alike (is_unreadable old.policy actor) old other same worker alike core is.there m
      also.1) in
      let asked = subst
      (λ p. IsSameEvent (is_unreadable p actor) k.state (event_of one) (event_of two)) (sym own)
      (events_alike (is_unreadable old.policy actor) old other same worker alike core is.there
      serves) in
      let run = second_runs_are actor k m ((worker, event_of one) ∷ [])
      ((worker, event_of two) ∷ []) (told ∷ []) is.next begin (refl, asked, tt)
      (is.next, is.step, refl) in
      let step = step_of m worker (event_of two) run.0 run.1 run.2 in
      let last = moved two worker core (with_core other core step.1) in (
        step.0,
        last,
        by_core other worker two step.0 last core
            (servers (is_unreadable old.policy actor) old other same worker alike ∙ serves)
            (record {
              was = m;
              next = step.1;
              there = also.1;
              step = step.2;
              after = refl {a = last};
            }),
      )

  answered_too : (told : Answer) (new : BankState) → BankStep old worker one told new → IsAnswered
  answered_too told new step =
      elim (step_cases old worker one told new step) as (λ _. IsAnswered) [
        | inl none ↦ (
          unserved other worker two,
          other,
          by_none other worker two (unserved other worker two)
              (servers (is_unreadable old.policy actor) old other same worker alike ∙ none.0) refl,
        )
        | inr by ↦ served_too told new by.0 by.1 by.2
      ]

pub second_steps_are : SecondStepsAre
second_steps_are actor old other new worker one two told policies same alike step =
    answered_too actor old other worker policies same alike told new step

-- Laws of a bank's steps and histories.
use Rattle.std.proofs.Common.{◌≡◌, ◌≢◌, inl, inr, ℕ, true, false, List, []}
use Rattle.std.proofs.Common.{◌∷◌, ◌++◌, length, get_or, Option, Some, if◌then◌else◌}
use Rattle.std.proofs.Common.{zero, suc, refl, sym, ap, subst, ◌∙◌, arith}
use Rattle.std.specs.Prelude.{slice_get}
use Rattle.std.proofs.lemmas.Bool.{cases_eq, eq-eqb, ne_eqb}
use Rattle.std.proofs.lemmas.Grind.{get_or-set_at}
use Rattle.std.proofs.lemmas.List.{length-append, length-set, get_or-set_other}
use Rattle.std.proofs.lemmas.Option.{same_Some, none-some, get_or_from_slice_get}
use Rattle.hg_choice.proofs.ChoiceLemmas.{steps_agree}
use Rattle.hg_choice.specs.ChosenSteps.{Chosen, ChosenStep}
use Rattle.hg_core.specs.Opening.{opened}
use Rattle.hg_machine.specs.declared.Answer.{Answer}
use Rattle.hg_machine.specs.Holders.{is_number}
use Rattle.hg_machine.specs.Lists.{Kept}
use Rattle.hg_bank.specs.Histories.{Entry, grew, answered, events_at, answers_at}
use Rattle.hg_bank.specs.Laws.{OthersStay, StepsAreDetermined, IsRunOf, EachCoreRuns}
use Rattle.hg_bank.specs.Laws.{BankStepsKeepPolicy}
use Rattle.hg_bank.specs.Opening.{grown, core_at}
use Rattle.hg_bank.specs.Requests.{Request, event_of}
use Rattle.hg_bank.specs.State.{BankState, with_core}
use Rattle.hg_bank.specs.Steps.{IsServedBy, moved}
use Rattle.hg_bank.proofs.StepCases.{step_cases, cores_after, core_below, policy_after, get_other}

pub others_stay : OthersStay
others_stay old new worker request answer core ne h =
    elim (step_cases old worker request answer new h) as
    (λ _. slice_get new.cores core ≡ slice_get old.cores core) [
      | inl none ↦ ap (λ b. slice_get b.cores core) none.1.1
      | inr served ↦
          ap (λ xs. slice_get xs core)
          (cores_after old worker request answer new served.0 served.2)
          ∙ get_other old.cores served.0 core served.2.next
          (λ e. ne (served.1 ∙ ap Some (sym e)))
    ]

pub steps_keep_policy : BankStepsKeepPolicy
steps_keep_policy old worker request answer new h =
    elim (step_cases old worker request answer new h) as (λ _. new.policy ≡ old.policy) [
      | inl none ↦ ap (λ b. b.policy) none.1.1
      | inr served ↦ policy_after served.2
    ]

served_agree : (old new last : BankState) (worker : ℕ) (request : Request) (answer given : Answer)
    (core : ℕ) → IsServedBy old worker request answer new core
    → IsServedBy old worker request given last core → (given ≡ answer) × (last ≡ new)
served_agree old new last worker request answer given core one other =
    let same = same_Some one.was other.was (sym one.there ∙ other.there) in
    let second = subst (λ k. ChosenStep k worker (event_of request) given other.next) (sym same)
    other.step in
    let agree = steps_agree one.was worker (event_of request) answer given one.next other.next
    one.step second in (
      agree.0,
      other.after ∙ ap (λ k. moved request worker core (with_core old core k)) agree.1
          ∙ sym one.after,
    )

pub steps_are_determined : StepsAreDetermined
steps_are_determined old new last worker request answer given one other =
    elim (step_cases old worker request answer new one) as
    (λ _. (given ≡ answer) × (last ≡ new)) [
      | inl none ↦
          elim (step_cases old worker request given last other) as
          (λ _. (given ≡ answer) × (last ≡ new)) [
            | inl also ↦ (also.1.0 ∙ sym none.1.0, also.1.1 ∙ sym none.1.1)
            | inr served ↦ absurd (none-some served.0 (sym none.0 ∙ served.1))
          ]
      | inr served ↦
          elim (step_cases old worker request given last other) as
          (λ _. (given ≡ answer) × (last ≡ new)) [
            | inl none ↦ absurd (none-some served.0 (sym none.0 ∙ served.1))
            | inr also ↦
                let same = same_Some served.0 also.0 (sym served.1 ∙ also.1) in
                served_agree old new last worker request answer given served.0 served.2
                (subst (IsServedBy old worker request given last) (sym same) also.2)
          ]
    ]

-- one more core, as it opens, changes nothing at a number
padded : (xs : List Kept) (k : Kept) (i : ℕ) → get_or (xs ++ k ∷ []) i k ≡ get_or xs i k
padded [] k zero = refl
padded [] k (suc i) = refl
padded (x ∷ xs) k zero = refl
padded (x ∷ xs) k (suc i) = padded xs k i

-- what a core was asked and answered, with one more entry, by whether it served
module _ (core : ℕ) (k last : Kept) (w : ℕ) (request : Request) (served : Option ℕ)
    (answer : Answer) (later : List Entry) where
  passed : is_number core served ≡ false
      → Chosen k (events_at core later) (answers_at core later) last
      → Chosen k (events_at core (answered w request served answer ∷ later))
      (answers_at core (answered w request served answer ∷ later)) last
  passed e run =
      subst (λ b. Chosen k
      (if b then (w, event_of request) ∷ events_at core later else events_at core later)
      (if b then answer ∷ answers_at core later else answers_at core later) last)
      (sym e) run

  joined : {next : Kept} → is_number core served ≡ true
      → ChosenStep k w (event_of request) answer next
      → Chosen next (events_at core later) (answers_at core later) last
      → Chosen k (events_at core (answered w request served answer ∷ later))
      (answers_at core (answered w request served answer ∷ later)) last
  joined {next} e step run =
      subst (λ b. Chosen k
      (if b then (w, event_of request) ∷ events_at core later else events_at core later)
      (if b then answer ∷ answers_at core later else answers_at core later) last)
      (sym e) (next, step, run)

-- the core at a number after a step: the one that served, or as it was
module _ {old mid : BankState} {w : ℕ} {request : Request} {answer : Answer} {at : ℕ}
    (is : IsServedBy old w request answer mid at) where
  opens_alike : opened mid.policy ≡ opened old.policy
  opens_alike = ap opened (policy_after is)

  was_at : core_at old at ≡ is.was
  was_at = get_or_from_slice_get old.cores at is.was (opened old.policy) is.there

  next_at : core_at mid at ≡ is.next
  next_at =
      ap (λ xs. get_or xs at (opened mid.policy)) (cores_after old w request answer mid at is)
      ∙ get_or-set_at old.cores at at is.next (opened mid.policy) refl (core_below is)

  other_at : (core : ℕ) → core ≢ at → core_at mid core ≡ core_at old core
  other_at core ne =
      ap (λ xs. get_or xs core (opened mid.policy)) (cores_after old w request answer mid at is)
      ∙ get_or-set_other old.cores at core is.next (opened mid.policy) ne
      ∙ ap (get_or old.cores core) opens_alike

  as_many : length mid.cores ≡ length old.cores
  as_many =
      ap length (cores_after old w request answer mid at is) ∙ length-set old.cores at is.next

pub each_core_runs : EachCoreRuns
each_core_runs old new [] core run = record {
  run = ap (λ b. core_at b core) run;
  stays = let e = ap (λ b. length b.cores) run in omega arith;
}
each_core_runs old new (grew ∷ later) core run =
    let rest = each_core_runs (grown old) new later core run.1 in
    let more = length-append old.cores (opened old.policy ∷ []) in
    let stays = rest.stays in
    record {
      run = subst (λ k. Chosen k (events_at core later) (answers_at core later) (core_at new core))
          (padded old.cores (opened old.policy) core) rest.run;
      stays = omega arith;
    }
each_core_runs old new (answered w request served answer ∷ later) core run =
    let mid = run.1.0 in
    let rest = each_core_runs mid new later core run.1.2 in
    let stays = rest.stays in
    elim (step_cases old w request answer mid run.1.1) as
    (λ _. IsRunOf core old (answered w request served answer ∷ later) new) [
      | inl none ↦
          let same = none.1.1 in
          record {
            run = passed core (core_at old core) (core_at new core) w request served answer later
                (ap (is_number core) (run.0 ∙ none.0))
                (subst (λ k. Chosen k (events_at core later) (answers_at core later)
                (core_at new core)) (ap (λ b. core_at b core) same) rest.run);
            stays = let e = ap (λ b. length b.cores) same in omega arith;
          }
      | inr by ↦
          let at = by.0 in
          let is = by.2 in
          let long = as_many is in
          elim (cases_eq core at) as
          (λ _. IsRunOf core old (answered w request served answer ∷ later) new) [
            | inr ne ↦ record {
              run = passed core (core_at old core) (core_at new core) w request served answer later
                  (ap (is_number core) (run.0 ∙ by.1) ∙ ne_eqb at core (λ e. ne (sym e)))
                  (subst (λ k. Chosen k (events_at core later) (answers_at core later)
                  (core_at new core)) (other_at is core ne) rest.run);
              stays = omega arith;
            }
            | inl here ↦ record {
              run = joined core (core_at old core) (core_at new core) w request served answer later
                  (ap (is_number core) (run.0 ∙ by.1) ∙ eq-eqb at core (sym here))
                  (subst (λ k. ChosenStep k w (event_of request) answer is.next)
                  (sym (ap (core_at old) here ∙ was_at is)) is.step)
                  (subst (λ k. Chosen k (events_at core later) (answers_at core later)
                  (core_at new core)) (ap (core_at mid) here ∙ next_at is) rest.run);
              stays = omega arith;
            }
          ]
    ]

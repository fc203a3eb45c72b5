-- A Take, a Refill and an Abandon of a core, as steps of the machine.
use Rattle.std.proofs.Common.{◌≡◌, ℕ, ◌==◌, inl, inr, Bool, true, cond, not, ◌∷◌, [], ◌++◌, List}
use Rattle.std.proofs.Common.{Some, None, refl, sym, ap, ◌∙◌, find, is_none, option_map}
use Rattle.std.proofs.Common.{slice_index_or, subst}
use Rattle.std.proofs.lemmas.Bool.{cases_Bool, eq-eqb, eqb-true, true≢false}
use Rattle.std.proofs.lemmas.Option.{none-some, same_Some}
use Rattle.hg_machine.specs.First.{first_of}
use Rattle.hg_machine.specs.Policy.{arena_of}
use Rattle.hg_machine.specs.Holders.{is_number}
use Rattle.hg_machine.specs.Refusal.{refusal}
use Rattle.hg_machine.proofs.Serves.{served_step}
use Rattle.hg_agreement.specs.Parts.{Plain, is_of, heap_at, state_of, holdings}
use Rattle.hg_agreement.specs.CoreSteps.{TakeIsStep, LetGoIsStep, SweptIsStep, RefilledIsTakenUp}
use Rattle.hg_agreement.specs.CoreSteps.{RefillIsStep, NoRefillIsStep}
use Rattle.hg_machine.specs.Steps.{Step}
use Rattle.hg_agreement.specs.Holdings.{view_of}
use Rattle.hg_agreement.proofs.Bridge.{heaps_agree, holds_had}
use Rattle.hg_agreement.proofs.Collects.{collect_is_tied}
use Rattle.hg_agreement.proofs.Clears.{swept_is_cleared}
use Rattle.hg_agreement.specs.Seen.{idle_pages_in}
use Rattle.hg_machine.proofs.Answered.{of_some}
use Rattle.hg_agreement.proofs.Swapped.{swap_had, swap_below}
use Rattle.hg_agreement.proofs.Leaves.{go_had, let_go_is_abandoned}
use Rattle.hg_agreement.proofs.Firsts.{next_is_first}
use Rattle.hg_agreement.proofs.Adopts.{taken_up_is_adopted}
use Rattle.hg_agreement.proofs.Settles.{taken_in_is_settled}
use Rattle.hg_agreement.proofs.Listed.{sent_are_listed}
use Rattle.hg_machine.specs.declared.Event.TheVariants as event
use Rattle.hg_machine.specs.declared.Answer.TheVariants as answer

pub take_is_step : TakeIsStep
take_is_step parts w found one now remotes sorted partition taken =
    let s = state_of parts in
    let n = one.holding.number in
    served_step s w (event.Take n) _ _
    (ap (λ b. first_of ((not b, answer.NotHeld) ∷ []))
    (holds_had parts w sorted taken.swap.worker_below n
    ∙ swap_had parts w found one now sorted taken.swap))
    (ap answer.Taken
    (sym (sent_are_listed parts n (swap_below parts w found one now sorted taken.swap) partition)))
    (taken_in_is_settled parts w found one now remotes sorted partition taken)

pub let_go_is_step : LetGoIsStep
let_go_is_step parts w heap one sorted go =
    let n = one.holding.number in
    served_step (state_of parts) w (event.Abandon n) answer.Done _
    (ap (λ b. first_of ((not b, answer.NotHeld) ∷ [])) (holds_had parts w sorted go.worker_below n
    ∙ go_had parts w heap one sorted go))
    refl
    (let_go_is_abandoned parts w heap one sorted go)

-- the first that passes a test of its number is the first of its number
first_number : (p : ℕ → Bool) (xs : List Plain) (one : Plain) → find (λ x. p x.holding.number) xs
    ≡ Some one → (p one.holding.number ≡ true) × (find (is_of one.holding.number) xs ≡ Some one)
first_number p [] one e = absurd (none-some one e)
first_number p (x ∷ xs) one e =
    elim (cases_Bool (p x.holding.number)) [
      | inl t ↦
          let same : x ≡ one =
          same_Some x one (sym (ap (λ b. cond b (Some x) (find (λ k. p k.holding.number) xs)) t)
          ∙ e) in (
            ap (λ k. p k.holding.number) (sym same) ∙ t,
            ap (λ b. cond b (Some x) (find (is_of one.holding.number) xs))
                (eq-eqb x.holding.number one.holding.number (ap (λ k. k.holding.number) same))
                ∙ ap Some same,
          )
      | inr f ↦
          let rest = first_number p xs one
          (sym (ap (λ b. cond b (Some x) (find (λ k. p k.holding.number) xs)) f) ∙ e) in (
            rest.0,
            elim (cases_Bool (x.holding.number == one.holding.number)) [
              | inl t ↦ absurd
                  (true≢false (sym rest.0
                  ∙ ap p (sym (eqb-true x.holding.number one.holding.number t)) ∙ f))
              | inr away ↦ ap (λ b. cond b (Some x) (find (is_of one.holding.number) xs)) away
                  ∙ rest.1
            ],
          )
    ]

pub refilled_is_taken_up : RefilledIsTakenUp
refilled_is_taken_up parts w arena heap one is = record {
  worker_below = is.worker_below;
  there = (first_number (λ n. is_for_number n) (parts.orphans ++ parts.fresh) one is.next).1;
  came = is.came;
  others = is.others;
} where
  is_for_number : ℕ → Bool
  is_for_number n = is_number arena (arena_of parts.policy n)

pub refill_is_step : RefillIsStep
refill_is_step parts w arena heap one pooled is =
    let s = state_of parts in
    let n = one.holding.number in
    let next = next_is_first parts arena pooled ∙ ap (option_map (λ k. k.holding.number)) is.next in
    served_step s w (event.Refill arena) (answer.Refilled n) _
    (ap (λ o. first_of ((is_none o, answer.NoSegment) ∷ [])) next)
    (n, refl, next)
    (taken_up_is_adopted parts w heap one pooled (refilled_is_taken_up parts w arena heap one is))

pub no_refill_is_step : NoRefillIsStep
no_refill_is_step parts w arena pooled none =
    let s = state_of parts in
    let next = next_is_first parts arena pooled ∙ ap (option_map (λ k. k.holding.number)) none in
    of_some (refusal s w (event.Refill arena)) _ (λ refused. (answer.NoSegment ≡ refused) × (s ≡ s))
    answer.NoSegment
    (ap (λ o. first_of ((is_none o, answer.NoSegment) ∷ [])) next)
    (refl, refl)

pub swept_is_step : SweptIsStep
swept_is_step parts w generation heap sound sorted worker below swept =
    let view = view_of parts.policy w (slice_index_or parts.hands w None) generation
    (holdings (heap_at parts w)) in
    let agrees = heaps_agree parts w generation None sound sorted below tt in
    let follows = collect_is_tied view None worker (state_of parts) agrees in
    subst (Step (state_of parts) w event.Collect (answer.Pages (idle_pages_in view)))
    (sym (swept_is_cleared parts w heap sorted below swept)) follows.step

-- What a search leaves of the sums and of the bank.
use Rattle.std.proofs.Common.{◌≡◌, ◌≢◌, inl, inr, ℕ, ◌+◌, ◌^◌, ◌<◌, ◌≤◌, List, [], length, get_or}
use Rattle.std.proofs.Common.{set, Some, sym, ap, subst, ◌∙◌, arith, All}
use Rattle.std.proofs.lemmas.Bool.{cases_eq}
use Rattle.std.proofs.lemmas.List.{length-set, get_or-set_other}
use Rattle.std.proofs.lemmas.List.Elements.{All-set}
use Rattle.std.proofs.lemmas.List.Sums.{sum_by-set}
use Rattle.std.proofs.lemmas.Option.{slice_get_within, get_or_from_slice_get}
use Rattle.std.proofs.lemmas.Grind.{get_or-set_at}
use Rattle.hg_machine.specs.declared.Answer.{Answer}
use Rattle.hg_machine.specs.declared.Event.{Event}
use Rattle.hg_machine.specs.Charge.{charge}
use Rattle.hg_machine.specs.Lists.{Kept}
use Rattle.hg_machine.specs.Policy.{Policy}
use Rattle.hg_machine.specs.Soundness.{IsSound}
use Rattle.hg_machine.proofs.Preserves.{steps_keep_policy}
use Rattle.hg_choice.specs.ChosenSteps.{ChosenStep}
use Rattle.hg_bank.specs.Choosing.{IsServedIn, IsCounted}
use Rattle.hg_bank.specs.Kept.{AreSums}
use Rattle.hg_bank.specs.Requests.{Request, event_of, server}
use Rattle.hg_bank.specs.Sound.{IsCoreOf, IsSoundBank}
use Rattle.hg_bank.specs.State.{BankState, charge_over}
use Rattle.hg_bank.specs.Steps.{BankStep, moved}
use Rattle.hg_bank.proofs.BankLemmas.{by_core, core_sound}
use Rattle.hg_bank.proofs.ChargeLemmas.{others_keep}
use Rattle.hg_bank.proofs.SumLemmas.{over_small, part_of_sum}

-- the sums with another row for a worker
pub sums_counted : (policy : Policy) (rows : List (List ℕ)) (cores new : List Kept) (worker : ℕ)
    (row : List ℕ) → AreSums policy rows cores → worker < policy.workers
    → ((tenant : ℕ) → tenant < length policy.tenants
    → get_or row tenant 0 ≡ charge_over new worker tenant)
    → ((other tenant : ℕ) → other ≢ worker
    → charge_over new other tenant ≡ charge_over cores other tenant)
    → AreSums policy (set rows worker row) new
sums_counted policy rows cores new worker row sums there own others = record {
  workers = length-set rows worker row ∙ sums.workers;
  each = λ v tenant a b.
      elim (cases_eq v worker) as
      (λ _. get_or (get_or (set rows worker row) v []) tenant 0 ≡ charge_over new v tenant) [
        | inl here ↦
            let long = sums.workers in
            ap (λ r. get_or r tenant 0) (get_or-set_at rows worker v row [] here (omega arith))
            ∙ own tenant b ∙ ap (λ w. charge_over new w tenant) (sym here)
        | inr ne ↦
            ap (λ r. get_or r tenant 0) (get_or-set_other rows worker v row [] ne)
            ∙ sums.each v tenant a b ∙ sym (others v tenant ne)
      ];
}

module _ {worker tenants : ℕ} {row : List ℕ} {cores : List Kept}
    (counted : IsCounted worker tenants row cores) {at : ℕ} {was : Kept}
    (there : was ≡ get_or cores at was) (below : at < length cores) where
  pub asked_worker : worker < was.state.policy.workers
  asked_worker =
      subst (λ k. worker < k.state.policy.workers) (sym there) (counted.worker_is at was below)

  pub asked_covered : (tenant : ℕ) → tenant < tenants
      → charge was.state worker tenant ≤ get_or row tenant 0
  asked_covered tenant less =
      let e = counted.each tenant less in
      let part = part_of_sum cores at was worker tenant below in
      let is = ap (λ k. charge k.state worker tenant) there in
      omega arith

  pub asked_small : length cores ≤ 16384 → (tenant : ℕ) → tenant < tenants
      → get_or row tenant 0 ≤ 2 ^ 49
  asked_small few tenant less =
      let e = counted.each tenant less in
      let small = over_small cores was worker tenant (λ core b. counted.sound core was b) in
      omega arith

  pub asked_counted : (e : Event) (a : Answer) (next : Kept) (mid last : List ℕ)
      → ChosenStep was worker e a next → IsSound next.state
      → ((tenant : ℕ) → tenant < tenants
      → get_or mid tenant 0 + charge was.state worker tenant ≡ get_or row tenant 0)
      → ((tenant : ℕ) → tenant < tenants
      → get_or last tenant 0 ≡ get_or mid tenant 0 + charge next.state worker tenant)
      → IsCounted worker tenants last (set cores at next)
  asked_counted e a next mid last step sound out in_again = record {
    sound = All-set (λ k. IsSound k.state) cores at next sound counted.sound;
    worker_is = All-set (λ k. worker < k.state.policy.workers) cores at next
        (subst (λ p. worker < p.workers)
        (sym (steps_keep_policy was.state worker e a next.state step.step)) asked_worker)
        counted.worker_is;
    each = λ tenant less.
        let x = counted.each tenant less in
        let y = out tenant less in
        let z = in_again tenant less in
        let is = ap (λ k. charge k.state worker tenant) there in
        let moved = sum_by-set (λ k. charge k.state worker tenant) cores at next was below in
        omega arith;
  }

module _ {cores new : List Kept} {worker core : ℕ} {e : Event} {a : Answer}
    (served : IsServedIn cores worker e core a new) where
  pub served_below : core < length cores
  served_below = slice_get_within cores core served.was served.there

  pub was_there : get_or cores core served.was ≡ served.was
  was_there = get_or_from_slice_get cores core served.was served.was served.there

  pub served_over : (w tenant : ℕ)
      → charge_over new w tenant + charge served.was.state w tenant
      ≡ charge_over cores w tenant + charge served.next.state w tenant
  served_over w tenant =
      let moved = sum_by-set (λ k. charge k.state w tenant) cores core served.next served.was
      served_below in
      let is = ap (λ k. charge k.state w tenant) was_there in
      let after = ap (λ xs. charge_over xs w tenant) served.after in
      omega arith

  module _ (policy : Policy) (cores_are : All (IsCoreOf policy) cores) where
    was_is : IsCoreOf policy served.was
    was_is = subst (IsCoreOf policy) was_there (cores_are core served.was served_below)

    pub next_of_policy : IsCoreOf policy served.next
    next_of_policy = record {
      policy =
          steps_keep_policy served.was.state worker e a served.next.state served.step.step
          ∙ was_is.policy;
      sound = served.sound;
      lists = served.lists;
    }

    pub served_others : worker < policy.workers → (other tenant : ℕ) → other ≢ worker
        → charge_over new other tenant ≡ charge_over cores other tenant
    served_others there other tenant ne =
        let over = served_over other tenant in
        let same = others_keep served.was.state worker e a served.next.state was_is.sound
        (subst (λ p. worker < p.workers) (sym was_is.policy) there) served.step.step other tenant ne
        in
        omega arith

-- the bank with other cores
abbrev pub with_cores : BankState → List Kept → BankState
with_cores b cores = record {
  policy = b.policy;
  room = b.room;
  cores = cores;
  currents = b.currents;
}

pub served_sound : (b : BankState) (worker core : ℕ) (e : Event) (a : Answer) (new : List Kept)
    → IsSoundBank b → IsServedIn b.cores worker e core a new → IsSoundBank (with_cores b new)
served_sound b worker core e a new sound served =
    subst (λ xs. IsSoundBank (with_cores b xs)) (sym served.after)
    (core_sound b core served.next sound (served_below served)
    (next_of_policy served b.policy sound.cores))

pub served_step : (b : BankState) (worker core : ℕ) (request : Request) (a : Answer)
    (new : List Kept) → IsServedIn b.cores worker (event_of request) core a new
    → server b worker request ≡ Some core
    → BankStep b worker request a (moved request worker core (with_cores b new))
served_step b worker core request a new served e =
    by_core b worker request a (moved request worker core (with_cores b new)) core e
    (record {
      was = served.was;
      next = served.next;
      there = served.there;
      step = served.step;
      after = ap (λ xs. moved request worker core (with_cores b xs)) served.after;
    })

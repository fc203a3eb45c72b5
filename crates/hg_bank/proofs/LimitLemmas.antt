-- Since its opening a bank's sums rise above limits by adopting alone.
use Rattle.std.proofs.Common.{◌≡◌, ◌≢◌, ◌⊎◌, inl, inr, ℕ, ◌<◌, ◌≤◌, ◌&&◌, Bool, true}
use Rattle.std.proofs.Common.{false, List, [], ◌∷◌, length, nat_lt, Some, None}
use Rattle.std.proofs.Common.{if◌then◌else◌, refl, sym, ap, subst, ◌∙◌, arith, All}
use Rattle.std.proofs.lemmas.Bool.{cases_Bool, cases_eq}
use Rattle.std.proofs.lemmas.List.Sums.{sum_by_push, get_or-le-sum_by}
use Rattle.std.proofs.lemmas.Option.{none-some, get_or_from_slice_get}
use Rattle.hg_core.specs.Opening.{opened}
use Rattle.hg_place.specs.declared.Actor.{Actor}
use Rattle.hg_machine.specs.declared.AllocVerdict.{AllocVerdict}
use Rattle.hg_machine.specs.declared.AllocVerdict.TheVariants as verdict
use Rattle.hg_machine.specs.declared.Answer.{Answer}
use Rattle.hg_machine.specs.declared.Event.{Event}
use Rattle.hg_machine.specs.declared.Event.TheVariants as event
use Rattle.hg_machine.specs.Charge.{charge}
use Rattle.hg_machine.specs.Policy.{Policy, limit_of}
use Rattle.hg_machine.specs.Request.{words_for}
use Rattle.hg_machine.specs.SoundPolicy.{IsSoundPolicy}
use Rattle.hg_machine.specs.State.{holder_at}
use Rattle.hg_machine.specs.Steps.{Step, successor}
use Rattle.hg_machine.proofs.Cases.{step_cases as core_cases}
use Rattle.hg_laws.specs.Asked.{is_refusal}
use Rattle.hg_laws.proofs.Refusals.{was_served}
use Rattle.hg_bank.specs.Choosing.{FitsIn}
use Rattle.hg_bank.specs.Histories.{Entry, grew, answered, History, IsOfWorker}
use Rattle.hg_bank.specs.Limits.{Adopts, AdoptsIn, SumsStayLow, LimitsArePassedByAdopting}
use Rattle.hg_bank.specs.Opening.{opened_bank, grown}
use Rattle.hg_bank.specs.Requests.{Request, alloc, refill, named, names_core, server, bank_verdict}
use Rattle.hg_bank.specs.Requests.{core_with_room}
use Rattle.hg_bank.specs.State.{BankState, charge_over}
use Rattle.hg_bank.specs.Steps.{IsServedBy, BankStep}
use Rattle.hg_bank.proofs.AllocLemmas.{fits_within, size_is, core_fits, passed_over, charged}
use Rattle.hg_bank.proofs.AllocLemmas.{uncharged}
use Rattle.hg_bank.proofs.ChargeLemmas.{others_keep}
use Rattle.hg_bank.proofs.FallLemmas.{falls}
use Rattle.hg_bank.proofs.OpeningLemmas.{nothing_charged}
use Rattle.hg_bank.proofs.StepCases.{step_cases, core_below, sum_after}
use Rattle.hg_bank.proofs.UnusedLemmas.{next_is, fresh_le}
use Rattle.hg_bank.proofs.UsualLemmas.{IsUsualBank, open_bank, grown_bank, inside, was_usual}
use Rattle.hg_bank.proofs.UsualLemmas.{core_worker, step_usual, first_of, rest_of, usual_since}

grown_sum : (b : BankState) (worker tenant : ℕ)
    → charge_over (grown b).cores worker tenant ≡ charge_over b.cores worker tenant
grown_sum b worker tenant =
    let more = sum_by_push (λ k. charge k.state worker tenant) b.cores (opened b.policy) in
    let none = nothing_charged b.policy worker tenant in
    omega arith

-- a core serves where the verdict allows, or the event names it
pub allowed : (b : BankState) (worker arena : ℕ) (v : AllocVerdict) (core : ℕ)
    → core_with_room b worker arena v ≡ Some core → (size : ℕ) × (v ≡ verdict.Fits size)
allowed b worker arena (verdict.Denied rule) core e = absurd (none-some core e)
allowed b worker arena verdict.TooLarge core e = absurd (none-some core e)
allowed b worker arena (verdict.Fits size) core e = (size, refl)

names : (b c : Bool) (core at : ℕ) → (if b && c then Some core else None) ≡ Some at → b ≡ true
names true c core at e = refl
names false c core at e = absurd (none-some at e)

-- what counts after a step
abbrev IsLow : BankState → BankState → ℕ → Request → Answer → ℕ → ℕ → Type 0
IsLow old new worker request told heap tenant =
    (charge_over new.cores heap tenant ≤ charge_over old.cores heap tenant)
    ⊎ (charge_over new.cores heap tenant ≤ limit_of old.policy tenant)
    ⊎ ((worker ≡ heap) × Adopts old worker request told)

module _ {policy : Policy} {old : BankState} {worker : ℕ} (usual : IsUsualBank policy old)
    (below : worker < policy.workers) where
  module _ {new : BankState} {request : Request} {told : Answer} {core : ℕ}
      (is : IsServedBy old worker request told new core) where
    -- where the core's charge is no higher, the sum isn't
    lower : (heap tenant : ℕ)
        → charge is.next.state heap tenant ≤ charge is.was.state heap tenant
        → IsLow old new worker request told heap tenant
    lower heap tenant less = let sum = sum_after is heap tenant in inl (omega arith)

    same : (heap tenant : ℕ)
        → charge is.next.state heap tenant ≡ charge is.was.state heap tenant
        → IsLow old new worker request told heap tenant
    same heap tenant e = lower heap tenant (omega arith)

    others : (e : Event) → Step is.was.state worker e told is.next.state → (heap tenant : ℕ)
        → heap ≢ worker → IsLow old new worker request told heap tenant
    others e step heap tenant ne =
        same heap tenant
        (others_keep is.was.state worker e told is.next.state (was_usual usual below is).sound
        (core_worker usual below is) step heap tenant ne)

  -- an allocation counts with its actor, and keeps within the limit
  module _ {new : BankState} {actor : Actor} {arena bytes : ℕ} {told : Answer} {core : ℕ}
      (is : IsServedBy old worker (alloc actor arena bytes) told new core) where
    abbrev IsLowHere : ℕ → ℕ → Type 0
    IsLowHere heap tenant = IsLow old new worker (alloc actor arena bytes) told heap tenant

    module _ (size : ℕ) (fits : bank_verdict old worker actor arena bytes ≡ verdict.Fits size) where
      fit : FitsIn worker actor arena bytes is.was
      fit =
          let usual_was = was_usual usual below is in
          let there = ap (λ k. charge k.state worker actor.0)
          (get_or_from_slice_get old.cores core is.was is.was is.there) in
          let part = get_or-le-sum_by (λ k. charge k.state worker actor.0) old.cores core is.was
          (core_below is) in
          core_fits old worker actor arena bytes size is.was fits
          (usual_was.serves ∙ sym usual.serves) usual_was.sound (inside usual below) (omega arith)

      given_low : (tenant : ℕ) → is_refusal told ≡ false → IsLowHere worker tenant
      given_low tenant plain =
          let e = event.Alloc actor arena bytes in
          let served = was_served is.was.state worker e told is.next.state is.step.step plain in
          let handle = served.serves.0 in
          let step = subst (λ a. Step is.was.state worker e a is.next.state) served.serves.1
          is.step.step in
          elim (cases_eq tenant actor.0) as (λ _. IsLowHere worker tenant) [
            | inl here ↦
                let more = charged is.next.state fit handle step in
                let sum = sum_after is worker actor.0 in
                let sized = (size_is old.policy actor.0 arena bytes
                (charge_over old.cores worker actor.0) size fits).1 in
                let within = fits_within old.policy actor.0 arena (words_for bytes)
                (charge_over old.cores worker actor.0) size fits in
                let low : charge_over new.cores worker actor.0 ≤ limit_of old.policy actor.0 =
                omega arith in
                inr (inl (subst (λ t. charge_over new.cores worker t ≤ limit_of old.policy t)
                (sym here) low))
            | inr ne ↦
                same is worker tenant
                (uncharged is.next.state fit handle step worker tenant ne)
          ]

      alloc_low : (tenant : ℕ) → IsLowHere worker tenant
      alloc_low tenant =
          elim (cases_Bool (is_refusal told)) as (λ _. IsLowHere worker tenant) [
            | inl refuses ↦
                let left = passed_over is.next.state fit told refuses is.step.step in
                same is worker tenant (ap (λ s. charge s worker tenant) left.2)
            | inr plain ↦ given_low tenant plain
          ]

  -- a refill brings what an orphan has
  module _ {new : BankState} {arena : ℕ} {told : Answer} {core : ℕ}
      (serves : server old worker (refill arena) ≡ Some core)
      (is : IsServedBy old worker (refill arena) told new core) where
    refill_low : (tenant : ℕ) → IsLow old new worker (refill arena) told worker tenant
    refill_low tenant =
        let s = is.was.state in
        let e = event.Refill arena in
        elim (core_cases s worker e told is.next.state is.step.step) as
        (λ _. IsLow old new worker (refill arena) told worker tenant) [
          | inr refused ↦ same is worker tenant (ap (λ t. charge t worker tenant) refused.same)
          | inl served ↦
              let g = served.serves.0 in
              elim (next_is s arena g (was_usual usual below is).sound served.serves.2) as
              (λ _. IsLow old new worker (refill arena) told worker tenant) [
                | inl left ↦ inr (inr (
                  refl,
                  record {
                    arena = arena;
                    core = core;
                    segment = g;
                    asks = refl;
                    serves = serves;
                    takes = served.serves.1;
                    left =
                        ap (λ k. holder_at k.state g)
                        (get_or_from_slice_get old.cores core is.was (opened old.policy) is.there)
                        ∙ left;
                  },
                ))
                | inr new_one ↦
                    let unused = (was_usual usual below is).unused in
                    let less = fresh_le s worker g worker tenant unused new_one in
                    let after = ap (λ t. charge t worker tenant)
                    (served.after ∙ ap (successor s worker e) served.serves.1) in
                    lower is worker tenant (omega arith)
              ]
        ]

  served_low : (new : BankState) (request : Request) (told : Answer) (core heap tenant : ℕ)
      → server old worker request ≡ Some core → IsServedBy old worker request told new core
      → IsLow old new worker request told heap tenant
  served_low new (named at e) told core heap tenant serves is =
      lower is heap tenant (falls is.was.state worker e told is.next.state
      (names (names_core e) (nat_lt at (length old.cores)) at core serves) is.step.step heap tenant)
  served_low new (refill arena) told core heap tenant serves is =
      elim (cases_eq heap worker) as (λ _. IsLow old new worker (refill arena) told heap tenant) [
        | inr ne ↦ others is (event.Refill arena) is.step.step heap tenant ne
        | inl here ↦
            subst (λ h. IsLow old new worker (refill arena) told h tenant) (sym here)
            (refill_low serves is tenant)
      ]
  served_low new (alloc actor arena bytes) told core heap tenant serves is =
      elim (cases_eq heap worker) as
      (λ _. IsLow old new worker (alloc actor arena bytes) told heap tenant) [
        | inr ne ↦ others is (event.Alloc actor arena bytes) is.step.step heap tenant ne
        | inl here ↦
            let fits = allowed old worker arena (bank_verdict old worker actor arena bytes) core
            serves in
            subst (λ h. IsLow old new worker (alloc actor arena bytes) told h tenant) (sym here)
            (alloc_low is fits.0 fits.1 tenant)
      ]

  step_low : (new : BankState) (request : Request) (told : Answer) (heap tenant : ℕ)
      → BankStep old worker request told new → IsLow old new worker request told heap tenant
  step_low new request told heap tenant step =
      elim (step_cases old worker request told new step) as
      (λ _. IsLow old new worker request told heap tenant) [
        | inl none ↦
            let e = ap (λ b. charge_over b.cores heap tenant) none.1.1 in
            inl (omega arith)
        | inr by ↦ served_low new request told by.0 heap tenant by.1 by.2
      ]

pub sums_stay_low : SumsStayLow
sums_stay_low policy room entries old new worker request told heap tenant since below step =
    let usual = usual_since policy entries (opened_bank policy room) old since.sound
    (open_bank policy room since.sound) since.workers since.history in
    subst (λ p. (charge_over new.cores heap tenant ≤ charge_over old.cores heap tenant)
    ⊎ (charge_over new.cores heap tenant ≤ limit_of p tenant)
    ⊎ ((worker ≡ heap) × Adopts old worker request told)) usual.serves
    (step_low usual below new request told heap tenant step)

passed : (policy : Policy) (entries : List Entry) (old new : BankState) (heap tenant : ℕ)
    → IsSoundPolicy policy → IsUsualBank policy old → All (IsOfWorker policy) entries
    → History old entries new → charge_over old.cores heap tenant ≤ limit_of policy tenant
    → limit_of policy tenant < charge_over new.cores heap tenant → AdoptsIn heap old entries
passed policy [] old new heap tenant sound usual workers run low high =
    let e = ap (λ b. charge_over b.cores heap tenant) run in absurd (omega arith)
passed policy (grew ∷ later) old new heap tenant sound usual workers run low high =
    let e = grown_sum old heap tenant in
    passed policy later (grown old) new heap tenant sound (grown_bank policy old sound usual)
    (rest_of policy grew later workers) run.1 (omega arith) high
passed policy (answered w request core told ∷ later) old new heap tenant sound usual workers run
    low high =
    let mid = run.1.0 in
    let below = first_of policy (answered w request core told) later workers in
    let goes_on = λ (less : charge_over mid.cores heap tenant ≤ limit_of policy tenant).
    passed policy later mid new heap tenant sound (step_usual usual below request told run.1.1)
    (rest_of policy (answered w request core told) later workers) run.1.2 less high
    in
    let limit = ap (λ p. limit_of p tenant) usual.serves in
    elim (step_low usual below mid request told heap tenant run.1.1) as
    (λ _. AdoptsIn heap old (answered w request core told ∷ later)) [
      | inl less ↦ inr (mid, run.1.1, goes_on (omega arith))
      | inr either ↦
          elim either as (λ _. AdoptsIn heap old (answered w request core told ∷ later)) [
            | inl within ↦ inr (mid, run.1.1, goes_on (omega arith))
            | inr adopts ↦ inl adopts
          ]
    ]

pub limits_are_passed_by_adopting : LimitsArePassedByAdopting
limits_are_passed_by_adopting policy room entries new heap tenant since high =
    let open_one = nothing_charged policy heap tenant in
    let low : charge_over (opened_bank policy room).cores heap tenant ≤ limit_of policy tenant =
    omega arith in
    passed policy entries (opened_bank policy room) new heap tenant since.sound
    (open_bank policy room since.sound) since.workers since.history low high

-- What a core answers to an allocation that the bank's verdict allows.
use Rattle.std.proofs.Common.{◌≡◌, ◌≢◌, inl, inr, ℕ, ◌+◌, ◌*◌, ◌<◌, ◌≤◌, Bool, true, false, not}
use Rattle.std.proofs.Common.{cond, if◌then◌else◌, nat_le, length, Option, Some, None, unwrap_or}
use Rattle.std.proofs.Common.{refl, sym}
use Rattle.std.proofs.Common.{ap, subst, ◌∙◌, arith}
use Rattle.std.proofs.lemmas.Bool.{leb-true, le-leb, le-ltb, ltb-true, cases_lt}
use Rattle.hg_size.specs.Sizes.{size_for}
use Rattle.hg_place.specs.declared.Actor.{Actor}
use Rattle.hg_place.specs.declared.Handle.{Handle}
use Rattle.hg_machine.specs.declared.AllocVerdict.{AllocVerdict}
use Rattle.hg_machine.specs.declared.AllocVerdict.TheVariants as verdict
use Rattle.hg_machine.specs.declared.Answer.{Answer}
use Rattle.hg_machine.specs.declared.Answer.TheVariants as answer
use Rattle.hg_machine.specs.declared.Event.TheVariants as event
use Rattle.hg_machine.specs.declared.Rule.TheVariants as rule
use Rattle.hg_machine.specs.Charge.{charge}
use Rattle.hg_machine.specs.Lists.{Kept}
use Rattle.hg_machine.specs.Policy.{Policy, is_tenant, admits, limit_of}
use Rattle.hg_machine.specs.Refusal.{refusal, alloc_refusal}
use Rattle.hg_machine.specs.Request.{words_for, size_of, verdict_on_size, alloc_verdict}
use Rattle.hg_machine.specs.Room.{has_room}
use Rattle.hg_machine.specs.Soundness.{IsSound}
use Rattle.hg_machine.specs.Served.{IsNext}
use Rattle.hg_machine.specs.State.{State}
use Rattle.hg_machine.specs.Steps.{Step}
use Rattle.hg_machine.proofs.Serves.{fits_parts}
use Rattle.hg_bank.specs.Choosing.{FitsIn}
use Rattle.hg_bank.specs.Requests.{bank_verdict}
use Rattle.hg_bank.specs.State.{BankState, charge_over}
use Rattle.hg_laws.specs.Asked.{is_refusal}
use Rattle.hg_laws.proofs.LimitsLemmas.{allocations_are_charged}
use Rattle.hg_laws.proofs.Refusals.{was_served, was_refused}
use Rattle.hg_bank.proofs.ChargeLemmas.{given_keeps}

in_limit : (b : Bool) (m n : ℕ)
    → (if b then verdict.Fits m else verdict.Denied rule.OverLimit) ≡ verdict.Fits n → b ≡ true
in_limit true m n e = refl
in_limit false m n e = absurd (cc)

size_fits : (policy : Policy) (actor charged less : ℕ) (o : Option ℕ) (size : ℕ) → less ≤ charged
    → verdict_on_size policy actor charged o ≡ verdict.Fits size
    → verdict_on_size policy actor less o ≡ verdict.Fits size
size_fits policy actor charged less None size low e = e
size_fits policy actor charged less (Some n) size low e =
    let limit = limit_of policy actor in
    let fits = in_limit (nat_le (charged + 8 * n) limit) n size e in
    let high = leb-true _ _ fits in
    let low_fits : nat_le (less + 8 * n) limit ≡ true = le-leb _ _ (omega arith) in
    ap (λ b. if b then verdict.Fits n else verdict.Denied rule.OverLimit) (low_fits ∙ sym fits) ∙ e

past_denials : (b c : Bool) (v w : AllocVerdict) (size : ℕ)
    → (v ≡ verdict.Fits size → w ≡ verdict.Fits size)
    → unwrap_or (cond b (Some (verdict.Denied rule.Stranger))
    (cond c (Some (verdict.Denied rule.ForeignArena)) None)) v ≡ verdict.Fits size
    → unwrap_or (cond b (Some (verdict.Denied rule.Stranger))
    (cond c (Some (verdict.Denied rule.ForeignArena)) None)) w ≡ verdict.Fits size
past_denials true c v w size h e = e
past_denials false true v w size h e = e
past_denials false false v w size h e = h e

-- what fits at a charge fits at a lower one
pub fits_below : (policy : Policy) (actor arena words charged less size : ℕ) → less ≤ charged
    → alloc_verdict policy actor arena words charged ≡ verdict.Fits size
    → alloc_verdict policy actor arena words less ≡ verdict.Fits size
fits_below policy actor arena words charged less size low e =
    past_denials (not (is_tenant policy actor)) (not (admits policy arena actor))
    (verdict_on_size policy actor charged (size_for words))
    (verdict_on_size policy actor less (size_for words)) size
    (size_fits policy actor charged less (size_for words) size low) e

-- what fits stays within the limit
size_within : (policy : Policy) (actor charged : ℕ) (o : Option ℕ) (size : ℕ)
    → verdict_on_size policy actor charged o ≡ verdict.Fits size
    → charged + 8 * size ≤ limit_of policy actor
size_within policy actor charged None size e = absurd (cc)
size_within policy actor charged (Some n) size e =
    let limit = limit_of policy actor in
    let fits = in_limit (nat_le (charged + 8 * n) limit) n size e in
    let low = leb-true _ _ fits in
    let same = fits_same n size
    (sym (ap (λ b. if b then verdict.Fits n else verdict.Denied rule.OverLimit) fits) ∙ e) in
    omega arith
  where
    fits_same : (m n : ℕ) → verdict.Fits m ≡ verdict.Fits n → m ≡ n
    fits_same m n e = cc

undenied : (b c : Bool) (v : AllocVerdict) (size : ℕ)
    → unwrap_or (cond b (Some (verdict.Denied rule.Stranger))
    (cond c (Some (verdict.Denied rule.ForeignArena)) None)) v ≡ verdict.Fits size
    → v ≡ verdict.Fits size
undenied true c v size e = absurd (cc)
undenied false true v size e = absurd (cc)
undenied false false v size e = e

pub fits_within : (policy : Policy) (actor arena words charged size : ℕ)
    → alloc_verdict policy actor arena words charged ≡ verdict.Fits size
    → charged + 8 * size ≤ limit_of policy actor
fits_within policy actor arena words charged size e =
    size_within policy actor charged (size_for words) size
    (undenied (not (is_tenant policy actor)) (not (admits policy arena actor))
    (verdict_on_size policy actor charged (size_for words)) size e)

-- a stranger's charge is not looked at
pub stranger_denied : (policy : Policy) (actor arena words one other : ℕ)
    → is_tenant policy actor ≡ false
    → alloc_verdict policy actor arena words one ≡ alloc_verdict policy actor arena words other
stranger_denied policy actor arena words one other e =
    let denied : (charged : ℕ)
    → alloc_verdict policy actor arena words charged ≡ verdict.Denied rule.Stranger =
    λ charged. ap (λ b. unwrap_or (cond (not b) (Some (verdict.Denied rule.Stranger))
    (cond (not (admits policy arena actor)) (Some (verdict.Denied rule.ForeignArena)) None))
    (verdict_on_size policy actor charged (size_for words))) e in
    denied one ∙ sym (denied other)

room_or : (b : Bool) → (if b then None else Some answer.NoRoom) ≡ None → b ≡ true
room_or true e = refl
room_or false e = absurd (cc)

no_room : (b : Bool) (a : Answer) → (if b then None else Some answer.NoRoom) ≡ Some a
    → (b ≡ false) × (a ≡ answer.NoRoom)
no_room true a e = absurd (cc)
no_room false a e = (refl, cc)

block_same : (h k : Handle) → answer.Block h ≡ answer.Block k → h ≡ k
block_same h k e = cc

module _ {k : Kept} {worker : ℕ} {actor : Actor} {arena bytes : ℕ} (new : State)
    (is : FitsIn worker actor arena bytes k) where
  abbrev s : State
  s = k.state

  decided : (o : Option Answer) → refusal s worker (event.Alloc actor arena bytes) ≡ o
      → (if has_room s worker arena (size_of bytes) then None else Some answer.NoRoom) ≡ o
  decided o e = sym (ap (alloc_refusal s worker arena) is.fits) ∙ e

  -- it is refused for want of room alone, and then nothing has changed
  pub passed_over : (a : Answer) → is_refusal a ≡ true
      → Step s worker (event.Alloc actor arena bytes) a new
      → (has_room s worker arena (size_of bytes) ≡ false) × (a ≡ answer.NoRoom) × (new ≡ s)
  passed_over a refuses step =
      let r = was_refused s worker (event.Alloc actor arena bytes) a new step refuses in
      let why = no_room (has_room s worker arena (size_of bytes)) a (decided (Some a) r.some) in
      (why.0, why.1, r.same)

  -- where it is served there was room, and the actor alone is charged
  module _ (handle : Handle)
      (step : Step s worker (event.Alloc actor arena bytes) (answer.Block handle) new) where
    pub had_room : has_room s worker arena (size_of bytes) ≡ true
    had_room =
        let h = was_served s worker (event.Alloc actor arena bytes) (answer.Block handle) new step
        refl in
        room_or _ (decided None h.none)

    pub charged : charge new worker actor.0 ≡ charge s worker actor.0 + 8 * size_of bytes
    charged =
        (allocations_are_charged s worker actor arena bytes handle new is.sound step).0

    pub uncharged : (other tenant : ℕ) → tenant ≢ actor.0
        → charge new other tenant ≡ charge s other tenant
    uncharged other tenant ne =
        let h = was_served s worker (event.Alloc actor arena bytes) (answer.Block handle) new step
        refl in
        let same = block_same handle h.serves.0 h.serves.1 in
        let next = subst (IsNext s worker arena (size_of bytes)) (sym same) h.serves.2 in
        ap (λ t. charge t other tenant) h.after
        ∙ given_keeps s worker arena actor.0 (size_of bytes) handle is.sound next other tenant ne

-- the bank's verdict looks at the sum of a tenant's charges alone
pub verdict_by_sum : (policy : Policy) (actor arena words counted sum : ℕ)
    → (actor < length policy.tenants → counted ≡ sum)
    → alloc_verdict policy actor arena words counted ≡ alloc_verdict policy actor arena words sum
verdict_by_sum policy actor arena words counted sum same =
    elim (cases_lt actor (length policy.tenants)) as
    (λ _. alloc_verdict policy actor arena words counted
    ≡ alloc_verdict policy actor arena words sum) [
      | inl less ↦ ap (alloc_verdict policy actor arena words) (same less)
      | inr past ↦
          stranger_denied policy actor arena words counted sum
          (le-ltb actor (length policy.tenants) past)
    ]

-- what fits has the size that the bytes take
pub size_is : (policy : Policy) (actor arena bytes counted size : ℕ)
    → alloc_verdict policy actor arena (words_for bytes) counted ≡ verdict.Fits size
    → (actor < length policy.tenants) × (size ≡ size_of bytes)
size_is policy actor arena bytes counted size e =
    let parts = fits_parts policy actor arena (words_for bytes) counted size e in
    (ltb-true actor (length policy.tenants) parts.0, sym (ap (λ o. unwrap_or o 0) parts.1))

-- a core judges as the bank does
pub core_fits : (b : BankState) (worker : ℕ) (actor : Actor) (arena bytes size : ℕ) (k : Kept)
    → bank_verdict b worker actor arena bytes ≡ verdict.Fits size
    → k.state.policy ≡ b.policy → IsSound k.state → worker < b.policy.workers
    → charge k.state worker actor.0 ≤ charge_over b.cores worker actor.0
    → FitsIn worker actor arena bytes k
core_fits b worker actor arena bytes size k fits same sound inside low =
    let sum = charge_over b.cores worker actor.0 in
    let sized = (size_is b.policy actor.0 arena bytes sum size fits).1 in
    record {
      sound = sound;
      worker_is = subst (λ p. worker < p.workers) (sym same) inside;
      fits =
          ap (λ p. alloc_verdict p actor.0 arena (words_for bytes) (charge k.state worker actor.0))
          same
          ∙ fits_below b.policy actor.0 arena (words_for bytes) sum
          (charge k.state worker actor.0) size low fits
          ∙ ap verdict.Fits sized;
    }

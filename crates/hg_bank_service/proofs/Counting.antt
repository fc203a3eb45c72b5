-- What an allocation makes of the sums.
use Rattle.std.proofs.Common.{◌≡◌, ◌≢◌, ℕ, ◌+◌, ◌^◌, ◌<◌, ◌≤◌, inl, inr, List, Option, None, Some, IfNone}
use Rattle.std.proofs.Common.{IfSome, slice_index, slice_set, sym, ap, subst, ◌∙◌, arith}
use Rattle.std.proofs.lemmas.Bool.{cases_eq}
use Rattle.std.proofs.lemmas.Option.{none-some, same_Some}
use Rattle.hg_place.specs.declared.Actor.{Actor}
use Rattle.hg_place.specs.declared.Handle.{Handle}
use Rattle.hg_machine.specs.declared.Answer.{Answer}
use Rattle.hg_machine.specs.Request.{size_of}
use Rattle.hg_heap.specs.Allotted.{IsAllotted}
use Rattle.hg_heap.specs.Charges.{charge_in}
use Rattle.hg_worker.specs.Answers.{block_in}
use Rattle.hg_worker.specs.Charged.{AreKept}
use Rattle.hg_worker.specs.Seats.{number_in, records_in, seat_shows, seat_steps}
use Rattle.hg_hosted.specs.declared.worker.HostedWorker.{HostedWorker}
use Rattle.hg_hosted.specs.Calls.{Allocates}
use Rattle.hg_hosted.specs.Charges.{charge_at}
use Rattle.hg_hosted.specs.Serving.{Serves}
use Rattle.hg_hosted.proofs.Undone.{each_set}
use Rattle.hg_hosted.specs.Has.{Has}
use Rattle.hg_bank_service.specs.Sums.{AreSums}
use Rattle.hg_bank_service.proofs.Allotments.{others_uncharged}
use Rattle.hg_bank_service.proofs.Charging.{charge_is}
use Rattle.hg_bank_service.proofs.Lists.{IsAt}
use Rattle.hg_bank_service.proofs.Summed.{over_set}

if_none : {X : Type 0} (o : Option X) {P : Type 0} → o ≡ None → IfNone o P → P
if_none None is p = p
if_none (Some x) is p = absurd (none-some x (sym is))

if_some : {X : Type 0} (o : Option X) (P : X → Type 0) (x : X) → o ≡ Some x → IfSome o P → P x
if_some None P x is p = absurd (none-some x is)
if_some (Some y) P x is p = subst P (same_Some y x is) p

module _ {actor : Actor} {arena bytes : ℕ} {told : Answer} {was next : HostedWorker}
    (s : Serves (Allocates actor arena bytes told) was next) where
  -- a core that gives no block charges nobody
  pub vain_same : block_in told ≡ None → (tenant : ℕ) → charge_at next tenant ≡ charge_at was tenant
  vain_same none tenant =
      charge_is next s.after tenant s.is
      ∙ ap (λ heap. charge_in records_in heap.segments tenant)
      (if_none (block_in told) {P = s.after.value.heap ≡ s.before.value.heap} none
      s.does.unchanged)
      ∙ sym (charge_is was s.before tenant s.was)

  -- one that gives one charges the actor alone
  pub given_others : (handle : Handle) → Some handle ≡ block_in told
      → Has (λ state. AreKept state.heap.segments) was
      → Has (λ state. AreKept state.heap.segments) next
      → (tenant : ℕ) → tenant ≢ actor.0 → charge_at next tenant ≡ charge_at was tenant
  given_others handle is had has tenant apart =
      charge_is next s.after tenant s.is
      ∙ others_uncharged
      (if_some (block_in told) (λ h. IsAllotted number_in records_in seat_shows seat_steps
      (size_of bytes) actor.0 h s.before.value.heap.segments s.after.value.heap.segments) handle
      (sym is) s.does.given)
      (had s.before s.was) (has s.after s.is) tenant apart
      ∙ sym (charge_is was s.before tenant s.was)

-- the sums where one tenant's charge in a core has changed
pub sums_recounted : {tenants : ℕ} {row : List ℕ} {workers : List HostedWorker} {core : ℕ}
    {was : HostedWorker} (sums : AreSums tenants row workers)
    → IsAt workers core was → (next : HostedWorker) (actor : ℕ) (row' : List ℕ)
    → slice_index row' actor + charge_at was actor ≡ slice_index row actor + charge_at next actor
    → ((tenant : ℕ) → tenant ≢ actor → slice_index row' tenant ≡ slice_index row tenant)
    → ((tenant : ℕ) → tenant ≢ actor → charge_at next tenant ≡ charge_at was tenant)
    → charge_at next actor ≤ 2 ^ 35 → AreSums tenants row' (slice_set workers core next)
sums_recounted {tenants} {row} {workers} {core} {was} sums there next actor row' own others same
    few = record {
      each = λ tenant less.
          let set = over_set sums there next tenant in
          let is = sums.each tenant less in
          elim (cases_eq tenant actor) [
            | inl here ↦
                (let a = ap (slice_index row') here in
                let b = ap (slice_index row) here in
                let c = ap (charge_at was) here in
                let d = ap (charge_at next) here in
                omega arith)
            | inr apart ↦
                (let a = others tenant apart in
                let b = same tenant apart in
                omega arith)
          ];
      few = each_set
          (λ worker. (tenant : ℕ) → tenant < tenants → charge_at worker tenant ≤ 2 ^ 35) workers
          core next sums.few
          (λ tenant less.
          elim (cases_eq tenant actor) [
            | inl here ↦ (let d = ap (charge_at next) here in omega arith)
            | inr apart ↦
                (let b = same tenant apart in
                let low = sums.few core was there.there tenant less in
                omega arith)
          ]);
    }

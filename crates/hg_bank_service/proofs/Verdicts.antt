-- The verdict on an allocation, by the row of sums.
use Rattle.std.proofs.Common.{◌≡◌, ℕ, ◌<◌, ◌≤◌, length, slice_index, sym, ap, subst, ◌∙◌, arith}
use Rattle.hg_place.specs.declared.Actor.{Actor}
use Rattle.hg_machine.specs.declared.AllocVerdict.{AllocVerdict}
use Rattle.hg_machine.specs.declared.AllocVerdict.TheVariants as verdict
use Rattle.hg_machine.specs.Policy.{Policy}
use Rattle.hg_machine.specs.Request.{alloc_verdict, words_for, size_of}
use Rattle.hg_bank.proofs.AllocLemmas.{size_is, verdict_by_sum}
use Rattle.hg_bank_service.specs.Allocating.{sum_verdict}
use Rattle.hg_bank_service.specs.Sums.{charge_over}
use Rattle.hg_bank_service.specs.declared.worker.BankWorker.{BankWorker}
use Rattle.hg_bank_service.proofs.Departures.{some_of}
use Rattle.hg_bank_service.proofs.Openings.{some_at}

-- a policy of a bank worker has few tenants
pub few_tenants : (w : BankWorker) → length w.policy.tenants ≤ 64
few_tenants w =
    let some = w.some in
    let one = some_at w.workers.items 0 (omega arith) in
    let own = some_of one.0.state one.0.there in
    let it = w.of 0 one.0 one.1 own.0 own.1 in
    subst (λ (p : Policy). length p.tenants ≤ 64) it.serves own.0.value.sound.few_tenants

-- the verdict that was asked for by what the row counts is that by the sum
pub verdict_told : (w : BankWorker) (actor : Actor) (arena bytes : ℕ) {words counted : ℕ}
    {v told : AllocVerdict} → words ≡ words_for bytes
    → (actor.0 < 64 → counted ≡ slice_index w.sums actor.0)
    → v ≡ alloc_verdict w.policy actor.0 arena words counted → v ≡ told
    → sum_verdict w actor arena bytes ≡ told
verdict_told w actor arena bytes {words} {counted} {v} {told} words_is counts is tells =
    let few = few_tenants w in
    sym (is ∙ ap (λ n. alloc_verdict w.policy actor.0 arena n counted) words_is
    ∙ verdict_by_sum w.policy actor.0 arena (words_for bytes) counted
    (charge_over w.workers.items actor.0)
    (λ less. counts (omega arith) ∙ w.counted.each actor.0 less))
    ∙ tells

-- what fits has the size that the bytes take
pub fits_size : (w : BankWorker) (actor : Actor) (arena bytes size : ℕ)
    → sum_verdict w actor arena bytes ≡ verdict.Fits size
    → sum_verdict w actor arena bytes ≡ verdict.Fits (size_of bytes)
fits_size w actor arena bytes size fits =
    fits
    ∙ ap verdict.Fits
    (size_is w.policy actor.0 arena bytes (charge_over w.workers.items actor.0) size fits).1

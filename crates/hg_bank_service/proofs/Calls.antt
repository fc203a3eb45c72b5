-- Calls that name their core.
use Rattle.std.proofs.Common.{◌≡◌, ℕ, ◌<◌, ◌≤◌, List, [], length, Option, None, Some, MatchOption}
use Rattle.std.proofs.Common.{Vec, Global, vec_capacity, slice_get, slice_index, slice_set, sym, subst, arith}
use Rattle.std.proofs.lemmas.List.{length-set}
use Rattle.std.proofs.lemmas.Option.{none-some}
use Rattle.hg_machine.specs.declared.Answer.{Answer}
use Rattle.hg_machine.specs.declared.Event.{Event}
use Rattle.hg_machine.specs.Policy.{Policy}
use Rattle.hg_worker.specs.declared.state.WorkerState.{WorkerState}
use Rattle.hg_hosted.specs.declared.leaving.Departed.{Departed}
use Rattle.hg_hosted.specs.declared.worker.HostedWorker.{HostedWorker}
use Rattle.hg_hosted.specs.Waiting.{NeedsShared}
use Rattle.hg_hosted.proofs.Undone.{each_set}
use Rattle.hg_bank_service.specs.Asking.{ServesAt}
use Rattle.hg_hosted.specs.Has.{Has}
use Rattle.hg_bank_service.specs.Has.{AreNumbered, IsNumbered}
use Rattle.hg_bank_service.specs.Named.{IsAbsent, ServesIn, ServesThere}
use Rattle.hg_bank_service.specs.Sums.{AreSums}
use Rattle.hg_bank_service.specs.declared.worker.BankWorker.{BankWorker}
use Rattle.hg_bank_service.proofs.Kept.{answered_keep}

module _ (core : ℕ) (event : Event) (old new : BankWorker) where
  -- the core is there
  pub there_serves : {result : Option Answer} {was : HostedWorker}
      → slice_get old.workers.items core ≡ Some was → ServesThere core event result old new was
      → ServesIn core event result old new
  there_serves {result} {was} there served =
      subst (λ o. MatchOption o (IsAbsent event result old new)
      (ServesThere core event result old new)) (sym there) served

  -- it isn't
  pub absent_serves : {result : Option Answer} → slice_get old.workers.items core ≡ None
      → IsAbsent event result old new → ServesIn core event result old new
  absent_serves {result} away absent =
      subst (λ o. MatchOption o (IsAbsent event result old new)
      (ServesThere core event result old new)) (sym away) absent

  -- an event that needs nothing of what workers share is answered
  pub is_answered : ((state : WorkerState) → ¬ (NeedsShared event state))
      → ServesIn core event None old new → ⊥
  is_answered needs served = go (slice_get old.workers.items core) served
    where
      go : (o : Option HostedWorker)
          → MatchOption o (IsAbsent event None old new) (ServesThere core event None old new) → ⊥
      go None absent = none-some _ absent.told
      go (Some was) there = needs there.served.before.value there.served.does.needs

-- what a bank worker keeps
pub record Keeps (policy : Policy) (number : ℕ) (workers : List HostedWorker)
    (currents sums : List ℕ) (gone : Vec Departed Global) : Type 0 where
  pub below : number < policy.workers
  pub some : 1 ≤ length workers
  pub most : length workers ≤ 16384
  pub of : AreNumbered policy number workers
  pub there : (arena : ℕ) → slice_index currents arena < length workers
  pub counted : AreSums (length policy.tenants) sums workers
  pub here : gone.items ≡ []
  pub room : length workers ≤ vec_capacity gone

pub keeps_of : (w : BankWorker) → Keeps w.policy w.number w.workers.items w.currents w.sums w.gone
keeps_of w = record {
  below = w.below;
  some = w.some;
  most = w.most;
  of = w.of;
  there = w.there;
  counted = w.counted;
  here = w.here;
  room = w.room;
}

-- one core's worker is another now, of the same policy and number, and the sums are those of all
pub keeps_after : {policy : Policy} {number : ℕ} {workers : List HostedWorker}
    {currents sums sums' : List ℕ} {gone : Vec Departed Global} (core : ℕ) (next : HostedWorker)
    → Keeps policy number workers currents sums gone → Has (IsNumbered policy number) next
    → AreSums (length policy.tenants) sums' (slice_set workers core next)
    → Keeps policy number (slice_set workers core next) currents sums' gone
keeps_after {policy} {number} {workers} {currents} core next kept it counted =
    let long = length-set workers core next in
    record {
      below = kept.below;
      some = let some = kept.some in omega arith;
      most = let most = kept.most in omega arith;
      of = each_set (Has (IsNumbered policy number)) workers core next kept.of it;
      there = λ arena. let there = kept.there arena in omega arith;
      counted = counted;
      here = kept.here;
      room = let room = kept.room in omega arith;
    }

-- as it is behind a call of one core's worker
pub keeps_at : {policy : Policy} {number : ℕ} {workers new : List HostedWorker}
    {currents sums sums' : List ℕ} {gone : Vec Departed Global} {core : ℕ} {event : Event}
    {result : Option Answer}
    → Keeps policy number workers currents sums gone → ServesAt core event result workers new
    → AreSums (length policy.tenants) sums' new → Keeps policy number new currents sums' gone
keeps_at {policy} {number} {currents = currents} {sums' = sums'} {gone} {core} {event} {result} kept
    at counted =
    subst (λ xs. Keeps policy number xs currents sums' gone) (sym at.after)
    (keeps_after core at.next kept
    (answered_keep event result at.was at.next policy number at.served
    (kept.of core at.was at.there))
    (subst (AreSums (length policy.tenants) sums') at.after counted))

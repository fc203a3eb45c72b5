-- A core's worker lists its blocks.
use Rattle.std.proofs.Common.{◌≡◌, ℕ, List, [], Some, Ok, Err, MatchOption, MatchResult, slice_get}
use Rattle.std.proofs.Common.{slice_set, sym, ap, subst}
use Rattle.std.specs.declared.result.Result.{Result}
use Rattle.hg_place.specs.declared.Actor.{Actor}
use Rattle.hg_machine.specs.declared.Row.{Row}
use Rattle.hg_machine.specs.Policy.{Policy}
use Rattle.hg_worker.specs.declared.state.WorkerState.{WorkerState}
use Rattle.hg_hosted.specs.Behind.{Stays}
use Rattle.hg_hosted.specs.Calls.{ListsAll}
use Rattle.hg_hosted.specs.Charges.{charge_at}
use Rattle.hg_hosted.specs.Serving.{Serves}
use Rattle.hg_hosted.specs.declared.worker.HostedWorker.{HostedWorker}
use Rattle.hg_hosted.specs.Has.{Has}
use Rattle.hg_bank_service.specs.Has.{IsNumbered}
use Rattle.hg_bank_service.specs.Listing.{ChangesOne, ListsIn, ListsNothing}
use Rattle.hg_bank_service.specs.Named.{KeepsRest}
use Rattle.hg_bank_service.specs.declared.worker.BankWorker.{BankWorker}
use Rattle.hg_bank_service.proofs.Charging.{charge_by, kept_charges, serves_same}
use Rattle.hg_bank_service.proofs.Kept.{KeepsIts, serves_keep}

stays_keep : (old new : WorkerState) → Stays old new → KeepsIts old new
stays_keep old new same =
    (ap (λ (s : WorkerState). s.policy) same, ap (λ (s : WorkerState). s.number) same)

module _ {R E : Type 0} (rows : R → List Row) (actor : Actor) (was next : HostedWorker) where
  abbrev pub Told : Result R E → Type 0
  Told o =
      MatchResult o (λ r. Serves (ListsAll actor (rows r)) was next)
      (λ e. Serves Stays was next)

  pub listed_keep : (o : Result R E) (policy : Policy) (number : ℕ) → Told o
      → Has (IsNumbered policy number) was → Has (IsNumbered policy number) next
  listed_keep (Ok r) policy number s =
      serves_keep policy number (λ old new d. (d.rest.policy, d.rest.number)) s
  listed_keep (Err e) policy number s = serves_keep policy number stays_keep s

  pub listed_same : (o : Result R E) → Told o → (tenant : ℕ)
      → charge_at next tenant ≡ charge_at was tenant
  listed_same (Ok r) s =
      serves_same
      (λ old new d tenant. kept_charges old.heap.segments new.heap.segments tenant d.kept) s
  listed_same (Err e) s =
      serves_same (λ old new same tenant. ap (λ (s : WorkerState). charge_by s tenant) same) s

  pub listed_there : (o : Result R E) (core : ℕ) (old new : BankWorker) → Told o
      → slice_get old.workers.items core ≡ Some was
      → new.workers.items ≡ slice_set old.workers.items core next → next.shared ≡ was.shared
      → KeepsRest old new
      → MatchResult o (λ r. ListsIn core actor (rows r) old new)
      (λ e. ListsNothing core old new)
  listed_there (Ok r) core old new s there after shared rest =
      subst (λ o. MatchOption o ((rows r ≡ []) × (new ≡ old))
      (ChangesOne (Serves (ListsAll actor (rows r))) core old new)) (sym there)
      record { next = next; after = after; does = s; shared = shared; rest = rest }
  listed_there (Err e) core old new s there after shared rest =
      subst (λ o. MatchOption o ⊥ (ChangesOne (Serves Stays) core old new)) (sym there)
      record { next = next; after = after; does = s; shared = shared; rest = rest }

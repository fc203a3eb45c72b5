-- The workers that a service keeps, as they come, go and stay.
use Rattle.std.proofs.Common.{◌≡◌, ◌<◌, ℕ, zero, suc, List, [], ◌∷◌, map, Option, Some, None, MatchOption, get_or, slice_get, slice_set, refl, sym, ap, subst, ◌∙◌}
use Rattle.std.proofs.lemmas.Option.{none-some, same_Some, slice_get-get_or, slice_get_within}
use Rattle.atomic_table.specs.Seated.{TableId}
use Rattle.hg_machine.specs.Policy.{Policy}
use Rattle.hg_worker.specs.States.{IsNamed}
use Rattle.hg_hosted.proofs.Reaching.{places_back, places_then}
use Rattle.hg_hosted.specs.Departing.{IsBack}
use Rattle.hg_hosted.specs.New.{IsOpened}
use Rattle.hg_hosted.specs.Places.{HaveSamePlaces}
use Rattle.hg_hosted.specs.Shared.{table_of_shared}
use Rattle.hg_hosted.specs.declared.service.HostedService.{HostedService}
use Rattle.hg_hosted.specs.declared.worker.HostedWorker.{HostedWorker}
use Rattle.hg_service_replies.proofs.Taken.{gone_not}
use Rattle.hg_service_replies.specs.Closing.{AreLetLeave, PlaceLeaves}
use Rattle.hg_service_replies.specs.Opening.{ready}
use Rattle.hg_service_replies.specs.Owned.{AreItsWorkers, IsItsWorker}
use Rattle.hg_service_replies.specs.Taking.{IsNone, IsTaken}
use Rattle.hg_service_replies.specs.declared.part.Ungiven.{Ungiven}
use Rattle.hg_service_replies.specs.declared.part.Ungiven.TheVariants as ungiven

abbrev worker_in : HostedWorker → Option Ungiven → HostedWorker
worker_in other None = other
worker_in other (Some (ungiven.Ready worker)) = worker
worker_in other (Some (ungiven.Gone gone)) = other

ready_there : (workers : List HostedWorker) (k : ℕ) (worker : HostedWorker) → slice_get (map ready workers) k ≡ Some (ready worker) → slice_get workers k ≡ Some worker
ready_there [] k worker e = absurd (none-some _ e)
ready_there (one ∷ workers) zero worker e = ap (λ place. Some (worker_in one place)) (same_Some (ready one) (ready worker) e)
ready_there (one ∷ workers) (suc k) worker e = ready_there workers k worker e

-- those that a service begins with
pub its_new : {policy : Policy} (service : HostedService) (workers : List HostedWorker) → IsOpened policy service workers → AreItsWorkers service (map ready workers)
its_new service workers opened number worker there = let at = ready_there workers number worker there in record {
  new = opened.new.each number worker at;
  of = λ own is. subst (λ (p : Policy). IsNamed p (table_of_shared service.shared) own.value) (sym opened.serves) (opened.new.named number worker at own is);
  places = opened.places number worker at;
}

pub of_set : {X : Type 0} (xs : List (Option X)) (i k : ℕ) (x : X) → slice_get (slice_set xs i None) k ≡ Some (Some x) → slice_get xs k ≡ Some (Some x)
of_set [] i k x e = e
of_set (z ∷ zs) zero zero x e = absurd (none-some x (same_Some None (Some x) e))
of_set (z ∷ zs) zero (suc k) x e = e
of_set (z ∷ zs) (suc i) zero x e = e
of_set (z ∷ zs) (suc i) (suc k) x e = of_set zs i k x e

-- those that are left where one goes
its_others : (service : HostedService) (workers : List (Option Ungiven)) (number : ℕ) → AreItsWorkers service workers → AreItsWorkers service (slice_set workers number None)
its_others service workers number its k worker there = its k worker (of_set workers number k (ungiven.Ready worker) there)

pub its_taken :
    (service : HostedService) (old new : List (Option Ungiven)) (number : ℕ) (given : Option HostedWorker)
    → MatchOption given (IsNone old number new) (λ worker. IsTaken old number worker new)
    → AreItsWorkers service old → AreItsWorkers service new
its_taken service old new number None none its = subst (AreItsWorkers service) (sym none.same) its
its_taken service old new number (Some worker) taken its = subst (AreItsWorkers service) (sym taken.others) (its_others service old number its)

same_its : (service : HostedService) (number : ℕ) (worker back : HostedWorker) → IsBack worker back → IsItsWorker service number worker → IsItsWorker service number back
same_its service number worker back same its = record {
  new = λ own at. its.new own (sym same.state ∙ at);
  of = λ own at. its.of own (sym same.state ∙ at);
  places = places_then its.places same.places;
}

stayed_its : (service : HostedService) (number : ℕ) (was : Option Ungiven) (back : HostedWorker) → ((worker : HostedWorker) → was ≡ ready worker → IsItsWorker service number worker) → PlaceLeaves was (ready back) → IsItsWorker service number back
stayed_its service number None back its leaves = absurd (none-some _ (sym leaves))
stayed_its service number (Some (ungiven.Ready worker)) back its leaves = same_its service number worker back leaves (its worker refl)
stayed_its service number (Some (ungiven.Gone gone)) back its leaves = absurd (gone_not gone back (sym leaves))

-- those that stay where all are let leave
pub its_left : (service : HostedService) (old new : List (Option Ungiven)) → AreLetLeave old new → AreItsWorkers service old → AreItsWorkers service new
its_left service old new leave its number back there =
    let below = slice_get_within new number (ready back) there in
    let was = get_or old number (ready back) in
    let at = slice_get-get_or old number (ready back) (subst (λ n. number < n) leave.all below) in
    stayed_its service number was back (λ worker is. its number worker (at ∙ ap Some is)) (leave.each number was (ready back) at there)

-- and those of a service that goes on
pub its_still : (old new : HostedService) (workers : List (Option Ungiven)) → new.policy ≡ old.policy → table_of_shared new.shared ≡ table_of_shared old.shared → HaveSamePlaces old.shared new.shared → AreItsWorkers old workers → AreItsWorkers new workers
its_still old new workers policy table places its number worker there = let it = its number worker there in record {
  new = it.new;
  of = λ own at. subst (λ (t : TableId). IsNamed new.policy t own.value) (sym table)
      (subst (λ (p : Policy). IsNamed p (table_of_shared old.shared) own.value) (sym policy) (it.of own at));
  places = places_then (places_back places) it.places;
}

-- The bank workers that a bank of services keeps, as they come, go and stay.
use Rattle.std.proofs.Common.{◌≡◌, ◌<◌, ◌+◌, ℕ, List, [], ◌∷◌, ◌++◌, map, length, Option, Some, None, MatchOption, get_or, slice_get, slice_set, arith, refl, sym, ap, subst, ◌∙◌}
use Rattle.std.proofs.lemmas.List.{length-append}
use Rattle.std.proofs.lemmas.Option.{none-some, slice_get-get_or, slice_get_within}
use Rattle.atomic_table.specs.Seated.{TableId}
use Rattle.hg_machine.specs.Policy.{Policy}
use Rattle.hg_worker.specs.States.{IsNamed}
use Rattle.hg_close.specs.declared.fault.CloseFault.{CloseFault}
use Rattle.hg_hosted.proofs.Reaching.{places_back, places_then}
use Rattle.hg_hosted.specs.Closing.{GoesOn}
use Rattle.hg_hosted.specs.New.{IsOpened}
use Rattle.hg_hosted.specs.Shared.{table_of_shared}
use Rattle.hg_hosted.specs.declared.service.HostedService.{HostedService}
use Rattle.hg_hosted.specs.declared.worker.HostedWorker.{HostedWorker}
use Rattle.hg_bank_service.specs.Closing.{HaveClosed, KeepsAllClosed, StopsAt}
use Rattle.hg_bank_service.specs.New.{IsOpenedBank}
use Rattle.hg_bank_service.specs.State.{ServicesState}
use Rattle.hg_bank_service.specs.declared.worker.BankWorker.{BankWorker}
use Rattle.hg_service_replies.proofs.Its.{of_set}
use Rattle.hg_bank_service_replies.proofs.Taken.{gone_not}
use Rattle.hg_bank_service_replies.proofs.Rows.{each_but_last, of_map, to_map}
use Rattle.hg_bank_service_replies.specs.Closing.{AreLetLeave, PlaceLeaves}
use Rattle.hg_bank_service_replies.specs.Opening.{ready}
use Rattle.hg_bank_service_replies.specs.Owned.{AreItsWorkers, AreOfByCore, IsItsWorker, IsOf, cores_of}
use Rattle.hg_bank_service_replies.specs.Taking.{IsNone, IsTaken}
use Rattle.hg_bank_service_replies.specs.declared.part.Ungiven.{Ungiven}
use Rattle.hg_bank_service_replies.specs.declared.part.Ungiven.TheVariants as ungiven

abbrev worker_in : BankWorker → Option Ungiven → BankWorker
worker_in other None = other
worker_in other (Some (ungiven.Ready worker)) = worker
worker_in other (Some (ungiven.Leaving left)) = other
worker_in other (Some (ungiven.Gone gone)) = other

ready_there : (workers : List BankWorker) (number : ℕ) (worker : BankWorker) → slice_get (map ready workers) number ≡ Some (ready worker) → slice_get workers number ≡ Some worker
ready_there workers number worker there =
    let found = of_map ready workers number (ready worker) there in
    found.1 ∙ ap (λ one. Some (worker_in worker one)) found.2

-- one that a service opened with is of it
new_of :
    {policy : Policy} (service : HostedService) (workers : List HostedWorker)
    → IsOpened policy service workers → (number : ℕ) (worker : HostedWorker)
    → slice_get workers number ≡ Some worker → IsOf service worker
new_of service workers opened number worker at = record {
  of = λ own is. subst (λ (p : Policy). IsNamed p (table_of_shared service.shared) own.value)
      (sym opened.serves) (opened.new.named number worker at own is);
  places = opened.places number worker at;
}

-- and of what that goes on as
still_of :
    (was next : HostedService) (why : CloseFault) → GoesOn was why next → (worker : HostedWorker)
    → IsOf was worker → IsOf next worker
still_of was next why goes worker is = record {
  of = λ own at. subst (λ (t : TableId). IsNamed next.policy t own.value) (sym goes.table)
      (subst (λ (p : Policy). IsNamed p (table_of_shared was.shared) own.value) (sym goes.policy)
      (is.of own at));
  places = places_then (places_back goes.places) is.places;
}

-- those that it begins with
pub its_new : {policy : Policy} {cores : ℕ} (service : ServicesState) (workers : List BankWorker) → IsOpenedBank policy cores service workers → AreItsWorkers service (map ready workers)
its_new service workers opened number worker there =
    let at = ready_there workers number worker there in
    let new = opened.new number worker at in
    let none : length service.closed ≡ 0 = ap length opened.closed in
    record {
      number_is = new.number_is;
      serves = new.serves ∙ sym opened.serves;
      many = omega (arith, new.many, opened.many, none);
      of = λ core one its running row.
          let dealt = of_map (λ (all : List HostedWorker). slice_get all number) opened.its core (Some its)
          (subst (λ (given : List (Option HostedWorker)). slice_get given core ≡ Some (Some its)) (opened.dealt number worker at)
          (to_map Some worker.workers.items core its row)) in
          new_of one dealt.0 (opened.opened.each core one dealt.0 running dealt.1) number its dealt.2;
    }

-- those that are left where one goes
its_others : (service : ServicesState) (workers : List (Option Ungiven)) (number : ℕ) → AreItsWorkers service workers → AreItsWorkers service (slice_set workers number None)
its_others service workers number its k worker there = its k worker (of_set workers number k (ungiven.Ready worker) there)

pub its_taken :
    (service : ServicesState) (old new : List (Option Ungiven)) (number : ℕ) (given : Option BankWorker)
    → MatchOption given (IsNone old number new) (λ worker. IsTaken old number worker new)
    → AreItsWorkers service old → AreItsWorkers service new
its_taken service old new number None none its = subst (AreItsWorkers service) (sym none.same) its
its_taken service old new number (Some worker) taken its = subst (AreItsWorkers service) (sym taken.others) (its_others service old number its)

stayed_its : (service : ServicesState) (number : ℕ) (was : Option Ungiven) (back : BankWorker) → ((worker : BankWorker) → was ≡ ready worker → IsItsWorker service number worker) → PlaceLeaves was (ready back) → IsItsWorker service number back
stayed_its service number None back its leaves = absurd (none-some _ (sym leaves))
stayed_its service number (Some (ungiven.Ready worker)) back its leaves = subst (IsItsWorker service number) (sym leaves.2) (its worker refl)
stayed_its service number (Some (ungiven.Leaving left)) back its leaves = absurd leaves
stayed_its service number (Some (ungiven.Gone gone)) back its leaves = absurd (gone_not gone back (sym leaves))

-- those that stay where all are let leave
pub its_left : (service : ServicesState) (old new : List (Option Ungiven)) → AreLetLeave old new → AreItsWorkers service old → AreItsWorkers service new
its_left service old new leave its number back there =
    let below = slice_get_within new number (ready back) there in
    let was = get_or old number (ready back) in
    let at = slice_get-get_or old number (ready back) (subst (λ n. number < n) leave.all below) in
    stayed_its service number was back (λ worker is. its number worker (at ∙ ap Some is)) (leave.each number was (ready back) at there)

-- closing moves services to those that are closed, and loses none
same_cores : (old new : ServicesState) (left : List HostedService) → HaveClosed old left new.closed → length new.running ≡ length left → cores_of new ≡ cores_of old
same_cores old new left have many =
    let closed = ap length have.made ∙ length-append old.closed have.cores in
    let running = ap length have.taken ∙ length-append left have.gone in
    omega (arith, closed, running, have.all, many)

-- those of a service that another goes on as
its_kept : (old new : ServicesState) (workers : List (Option Ungiven)) → new.policy ≡ old.policy → cores_of new ≡ cores_of old
    → ((worker : List HostedWorker) → AreOfByCore old.running worker → AreOfByCore new.running worker)
    → AreItsWorkers old workers → AreItsWorkers new workers
its_kept old new workers policy cores still its number worker there =
    let it = its number worker there in record {
      number_is = it.number_is;
      serves = it.serves ∙ sym policy;
      many = it.many ∙ sym cores;
      of = still worker.workers.items it.of;
    }

-- and those of one that stops
pub its_stopped : (old new : ServicesState) (core : ℕ) (why : CloseFault) (workers : List (Option Ungiven)) → StopsAt old new core why → AreItsWorkers old workers → AreItsWorkers new workers
its_stopped old new core why workers stops its =
    let below = stops.below in
    let ran = length-append below (stops.was ∷ []) in
    let runs = ap length stops.left ∙ length-append below (stops.next ∷ []) in
    its_kept old new workers stops.policy
    (same_cores old new (below ++ stops.was ∷ []) stops.closed (omega (arith, ran, runs)))
    (λ row share. subst (λ (running : List HostedService). AreOfByCore running row) (sym stops.left)
    (λ k service worker running. each_but_last
    (λ j (one : HostedService). (own : HostedWorker) → slice_get row j ≡ Some own → IsOf one own)
    below stops.was stops.next stops.closed.gone
    (λ j one at own. subst (λ (running : List HostedService). AreOfByCore running row) stops.closed.taken share j one own at)
    (λ j before own at. still_of stops.was stops.next why stops.goes_on own (before own at)) k service running worker))
    its

-- and those of one that has closed all
pub its_closed : (old new : ServicesState) (workers : List (Option Ungiven)) → KeepsAllClosed old new → AreItsWorkers old workers → AreItsWorkers new workers
its_closed old new workers closed its =
    its_kept old new workers closed.policy (same_cores old new [] closed.closed (ap length closed.none))
    (λ row share. subst (λ (running : List HostedService). AreOfByCore running row) (sym closed.none)
    (λ k service worker running. absurd (none-some service running)))
    its

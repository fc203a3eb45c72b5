-- The bank workers that a bank of services keeps until threads have them.
use Rattle.std.specs.Prelude.{◌≡◌, ℕ, ◌+◌, List, Option, Some, length, slice_get}
use Rattle.hg_hosted.specs.New.{IsWorkerOf}
use Rattle.hg_hosted.specs.Places.{HaveSamePlaces}
use Rattle.hg_hosted.specs.Shared.{table_of_shared}
use Rattle.hg_hosted.specs.declared.service.HostedService.{HostedService}
use Rattle.hg_hosted.specs.declared.worker.HostedWorker.{HostedWorker}
use Rattle.hg_bank_service.specs.State.{ServicesState}
use Rattle.hg_bank_service.specs.declared.worker.BankWorker.{BankWorker}
use Rattle.hg_bank_service_replies.specs.declared.part.Ungiven.{Ungiven}
use Rattle.hg_bank_service_replies.specs.declared.part.Ungiven.TheVariants as ungiven

-- how many cores there are, of services that run or are closed
abbrev pub cores_of : ServicesState → ℕ
cores_of service = length service.closed + length service.running

-- it is of this service, with ways to what that shares
pub record IsOf (service : HostedService) (worker : HostedWorker) : Type 0 where
  pub of : IsWorkerOf service.policy (table_of_shared service.shared) worker
  pub places : HaveSamePlaces service.shared worker.shared

-- these are, core by core, of that core's service, where it runs
abbrev pub AreOfByCore : List HostedService → List HostedWorker → Type 0
AreOfByCore running workers =
    (core : ℕ) (service : HostedService) (worker : HostedWorker)
    → slice_get running core ≡ Some service → slice_get workers core ≡ Some worker
    → IsOf service worker

-- a bank worker of this bank of services, of this number, with a worker of each of its cores
pub record IsItsWorker (service : ServicesState) (number : ℕ) (worker : BankWorker) : Type 0 where
  pub number_is : worker.number ≡ number
  pub serves : worker.policy ≡ service.policy
  pub many : length worker.workers.items ≡ cores_of service
  pub of : AreOfByCore service.running worker.workers.items

-- each that stands ready is one, at its number
abbrev pub AreItsWorkers : ServicesState → List (Option Ungiven) → Type 0
AreItsWorkers service workers =
    (number : ℕ) (worker : BankWorker)
    → slice_get workers number ≡ Some (Some (ungiven.Ready worker))
    → IsItsWorker service number worker

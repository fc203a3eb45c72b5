-- The workers that a service keeps until threads have them.
use Rattle.std.specs.Prelude.{◌≡◌, ℕ, List, Option, Some, slice_get}
use Rattle.hg_hosted.specs.New.{IsNewHosted, IsWorkerOf}
use Rattle.hg_hosted.specs.Places.{HaveSamePlaces}
use Rattle.hg_hosted.specs.Shared.{table_of_shared}
use Rattle.hg_hosted.specs.declared.service.HostedService.{HostedService}
use Rattle.hg_hosted.specs.declared.worker.HostedWorker.{HostedWorker}
use Rattle.hg_service_replies.specs.declared.part.Ungiven.{Ungiven}
use Rattle.hg_service_replies.specs.declared.part.Ungiven.TheVariants as ungiven

-- a new worker of this service, of this number, with ways to what that shares
pub record IsItsWorker (service : HostedService) (number : ℕ) (worker : HostedWorker)
    : Type 0 where
  pub new : IsNewHosted number worker
  pub of : IsWorkerOf service.policy (table_of_shared service.shared) worker
  pub places : HaveSamePlaces service.shared worker.shared

-- each that stands ready is one, at its number
abbrev pub AreItsWorkers : HostedService → List (Option Ungiven) → Type 0
AreItsWorkers service workers =
    (number : ℕ) (worker : HostedWorker)
    → slice_get workers number ≡ Some (Some (ungiven.Ready worker))
    → IsItsWorker service number worker

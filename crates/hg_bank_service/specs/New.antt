-- What a bank of services opens with.
use Rattle.std.specs.Prelude.{◌≡◌, ℕ, List, [], Some, length, replicate, slice_get}
use Rattle.hg_machine.specs.Policy.{Policy}
use Rattle.hg_hosted.specs.declared.service.HostedService.{HostedService}
use Rattle.hg_hosted.specs.declared.worker.HostedWorker.{HostedWorker}
use Rattle.hg_hosted.specs.New.{IsOpened}
use Rattle.hg_bank_service.specs.Dealing.{IsDealt}
use Rattle.hg_bank_service.specs.State.{ServicesState}
use Rattle.hg_bank_service.specs.declared.worker.BankWorker.{BankWorker}
use Rattle.hg_bank_service.specs.declared.worker.TheConstants.{ARENAS}

-- services of this policy that opened just now, each with these workers
pub record AreOpened (policy : Policy) (services : List HostedService)
    (workers : List (List HostedWorker)) : Type 0 where
  pub all : length workers ≡ length services
  pub each :
      (core : ℕ) (service : HostedService) (its : List HostedWorker)
      → slice_get services core ≡ Some service → slice_get workers core ≡ Some its
      → IsOpened policy service its

-- of this policy and number, with so many cores, of which the first is the current one in each arena
pub record IsNewWorker (policy : Policy) (number cores : ℕ) (worker : BankWorker) : Type 0 where
  pub serves : worker.policy ≡ policy
  pub number_is : worker.number ≡ number
  pub many : length worker.workers.items ≡ cores
  pub currents : worker.currents ≡ replicate ARENAS 0

-- A bank of so many services of this policy, none of which is closed, and its workers, each at its
-- number: the bank worker of a number has the worker of that number of each service, in order
pub record IsOpenedBank (policy : Policy) (cores : ℕ) (service : ServicesState)
    (workers : List BankWorker) : Type 0 where
  pub serves : service.policy ≡ policy
  pub closed : service.closed ≡ []
  pub many : length service.running ≡ cores
  pub its : List (List HostedWorker)
  pub opened : AreOpened policy service.running its
  pub all : length workers ≡ policy.workers
  pub new :
      (number : ℕ) (worker : BankWorker) → slice_get workers number ≡ Some worker
      → IsNewWorker policy number cores worker
  pub dealt :
      (number : ℕ) (worker : BankWorker) → slice_get workers number ≡ Some worker
      → IsDealt its number worker.workers.items

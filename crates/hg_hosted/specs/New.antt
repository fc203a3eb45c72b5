-- What a service begins with.
use Rattle.std.specs.Prelude.{◌≡◌, ℕ, List, [], None, Some, slice_get, length}
use Rattle.atomic_table.specs.Seated.{TableId}
use Rattle.hg_machine.specs.Policy.{Policy}
use Rattle.hg_table.specs.Seats.{KnowsNothing, part_on}
use Rattle.hg_worker.specs.States.{IsNamed}
use Rattle.hg_worker.specs.declared.state.WorkerState.{WorkerState}
use Rattle.hg_hosted.specs.declared.service.HostedService.{HostedService}
use Rattle.hg_hosted.specs.declared.worker.HostedWorker.{HostedWorker}
use Rattle.hg_hosted.specs.Has.{Has}
use Rattle.hg_hosted.specs.Places.{HaveSamePlaces}
use Rattle.hg_hosted.specs.Shared.{table_of_shared}
use Rattle.hg_hosted.specs.declared.shared.Shared.{Shared}

-- of this number, it holds nothing, has nothing in hand, and its seat has seen and ended nothing
pub record IsNewState (number : ℕ) (state : WorkerState) : Type 0 where
  pub number_is : state.number ≡ number
  pub held : state.heap.segments ≡ []
  pub hand : state.hand ≡ None
  pub seat : KnowsNothing (part_on state.seat.badge)

-- its state is such a one
abbrev pub IsNewHosted : ℕ → HostedWorker → Type 0
IsNewHosted number worker = Has (IsNewState number) worker

-- it is of the service with this policy and table
abbrev pub IsWorkerOf : Policy → TableId → HostedWorker → Type 0
IsWorkerOf policy table worker = Has (IsNamed policy table) worker

-- the new workers of that service, each at its number
pub record AreNewHosted (policy : Policy) (table : TableId) (workers : List HostedWorker)
    : Type 0 where
  pub all : length workers ≡ policy.workers
  pub each :
      (k : ℕ) (worker : HostedWorker) → slice_get workers k ≡ Some worker → IsNewHosted k worker
  pub named :
      (k : ℕ) (worker : HostedWorker) → slice_get workers k ≡ Some worker
      → IsWorkerOf policy table worker

-- each of these workers has ways to the same places
abbrev pub ShareAll : Shared → List HostedWorker → Type 0
ShareAll shared workers =
    (k : ℕ) (worker : HostedWorker) → slice_get workers k ≡ Some worker
    → HaveSamePlaces shared worker.shared

-- a service of this policy, to which nobody has come back, and its new workers, which share
-- what it does
pub record IsOpened (policy : Policy) (service : HostedService) (workers : List HostedWorker)
    : Type 0 where
  pub serves : service.policy ≡ policy
  pub out : service.came.items ≡ []
  pub new : AreNewHosted policy (table_of_shared service.shared) workers
  pub places : ShareAll service.shared workers

-- Of which policy and number a bank worker's workers are, one in each core.
use Rattle.std.specs.Prelude.{◌≡◌, ℕ, List, Some, slice_get}
use Rattle.hg_machine.specs.Policy.{Policy}
use Rattle.hg_worker.specs.declared.state.WorkerState.{WorkerState}
use Rattle.hg_hosted.specs.Has.{Has}
use Rattle.hg_hosted.specs.declared.worker.HostedWorker.{HostedWorker}

-- it has this policy and this number
pub record IsNumbered (policy : Policy) (number : ℕ) (state : WorkerState) : Type 0 where
  pub serves : state.policy ≡ policy
  pub number_is : state.number ≡ number

-- each of them has
abbrev pub AreNumbered : Policy → ℕ → List HostedWorker → Type 0
AreNumbered policy number workers =
    (core : ℕ) (worker : HostedWorker) → slice_get workers core ≡ Some worker
    → Has (IsNumbered policy number) worker

-- A call of a worker that is hosted.
use Rattle.std.specs.Prelude.{◌≡◌, Some}
use Rattle.hg_worker.specs.declared.state.WorkerState.{WorkerState}
use Rattle.hg_hosted.specs.declared.worker.HostedWorker.{HostedWorker}

-- its state changes so
pub record Serves (Does : WorkerState → WorkerState → Type 0) (old new : HostedWorker)
    : Type 0 where
  pub before : _
  pub after : _
  pub was : old.state ≡ Some before
  pub is : new.state ≡ Some after
  pub does : Does before.value after.value

-- What is said of a worker by its state.
use Rattle.std.specs.Prelude.{◌≡◌, Some}
use Rattle.hg_worker.specs.declared.state.WorkerState.{WorkerState}
use Rattle.hg_hosted.specs.declared.worker.HostedWorker.{HostedWorker}

abbrev pub Has : (WorkerState → Type 0) → HostedWorker → Type 0
Has Is worker = (own : _) → worker.state ≡ Some own → Is own.value

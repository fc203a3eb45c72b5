-- What reads and writes words of blocks for a worker that is hosted.
use Rattle.std.specs.Prelude.{◌≡◌, ℕ}
use Rattle.hg_machine.specs.declared.Answer.{Answer}
use Rattle.hg_hosted.specs.Calls.{Reads, Writes}
use Rattle.hg_hosted.specs.Serving.{Serves}
use Rattle.hg_hosted.specs.declared.worker.HostedWorker.{HostedWorker}
use Rattle.hg_bytes.specs.declared.of_worker.WorkerBlock.{WorkerBlock}

-- it has whoever asks
abbrev pub worker_has : WorkerBlock → HostedWorker → Type 0
worker_has by worker = Unit {0}

-- what workers share stays
abbrev pub worker_reads : WorkerBlock → ℕ → Answer → HostedWorker → HostedWorker → Type 0
worker_reads by index said old new =
    Serves (Reads by.actor by.handle index said) old new × (new.shared ≡ old.shared)

abbrev pub worker_writes : WorkerBlock → ℕ → ℕ → Answer → HostedWorker → HostedWorker → Type 0
worker_writes by index value said old new =
    Serves (Writes by.actor by.handle index value said) old new × (new.shared ≡ old.shared)

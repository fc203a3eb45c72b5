-- What a worker that is hosted is charged.
use Rattle.std.specs.Prelude.{ℕ, option_map, unwrap_or}
use Rattle.hg_heap.specs.Charges.{charge_in}
use Rattle.hg_worker.specs.Seats.{records_in}
use Rattle.hg_hosted.specs.declared.worker.HostedWorker.{HostedWorker}

-- what a tenant is charged for the open places of the segments that the worker holds, in bytes
abbrev pub charge_at : HostedWorker → ℕ → ℕ
charge_at worker tenant =
    unwrap_or (option_map (λ own. charge_in records_in own.value.heap.segments tenant) worker.state)
    0

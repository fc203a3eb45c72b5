use Rattle.std.proofs.Common.{subst}
use Rattle.std.specs.Prelude.{Contains}
use Rattle.hg_segment.specs.Kept.{Kept}
use Rattle.hg_segment.specs.Settled.{IsSettled}
use Rattle.hg_worker.specs.declared.state.WorkerState.{WorkerState}
use Rattle.hg_worker.specs.Seats.{records_in}
use Rattle.hg_worker.proofs.worker.Worker.settled.Goals as goal

pub returns : goal.returns
returns g c =
    subst (λ (w : WorkerState). (k : Kept _) → Contains w.heap.segments k → IsSettled records_in k)
    c.deref.ensures c.settled.ensures.each

-- A worker that goes where its service takes it in.
use Rattle.std.proofs.Common.{◌≡◌, ◌∙◌, Box, Global, None, Option, Result, Ok, Err, IfOk, Some, sym, ap}
use Rattle.crossbeam_queue.specs.Passes.{view}
use Rattle.hg_worker.specs.declared.state.WorkerState.{WorkerState}
use Rattle.hg_hosted.specs.Departing.{IsGone, Parks}
use Rattle.hg_hosted.specs.Parking.{has_parked}
use Rattle.hg_hosted.specs.Places.{HaveSamePlaces}
use Rattle.hg_hosted.specs.declared.leaving.Departed.{Departed}
use Rattle.hg_hosted.specs.declared.of_service.Way.{Way}
use Rattle.hg_hosted.specs.declared.parts.Left.{Left}
use Rattle.hg_hosted.specs.declared.shared.Shared.{Shared}
use Rattle.hg_hosted.specs.declared.worker.HostedWorker.{HostedWorker}

abbrev after : Way Left → Option (Box WorkerState Global) → Way Left
after before state =
    has_parked before.known before.taken before.parked (record { state = state })

-- as its state is, by the ways that it had
pub gone_of :
    (worker : HostedWorker) (state : Box WorkerState Global) (shared : Shared)
    → worker.state ≡ Some state → HaveSamePlaces worker.shared shared
    → (worker.shared.left.kept ≡ None
    → view shared.left.pass ≡ view worker.shared.left.pass)
    → (view shared.left.pass).taken ≡ (view worker.shared.left.pass).taken
    → (result : Result Departed HostedWorker)
    → IfOk result (λ gone. Parks state (view shared.left.pass) (view gone.left.pass))
    → IfOk result (λ gone. gone.left.pass.table_id ≡ shared.left.pass.table_id)
    → IfOk result (IsGone worker)
gone_of worker state shared is same way taken (Ok gone) parked place = record {
  before = view shared.left.pass;
  parked = parked ∙ ap (after (view shared.left.pass)) (sym is);
  taken = ap (λ (w : Way Left). w.taken) parked ∙ taken;
  was = way;
  place = place ∙ same.left;
}
gone_of worker state shared is same way taken (Err back) parked place = tt

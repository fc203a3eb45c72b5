-- What becomes of a worker that is asked to leave.
use Rattle.std.specs.Prelude.{◌≡◌, Box, None, Some}
use Rattle.std.specs.Global.{Global}
use Rattle.crossbeam_queue.specs.Passes.{view}
use Rattle.hg_worker.specs.declared.state.WorkerState.{WorkerState}
use Rattle.hg_hosted.specs.Parking.{has_parked}
use Rattle.hg_hosted.specs.Places.{HaveSamePlaces}
use Rattle.hg_hosted.specs.declared.leaving.Departed.{Departed}
use Rattle.hg_hosted.specs.declared.of_service.Way.{Way}
use Rattle.hg_hosted.specs.declared.parts.Left.{Left}
use Rattle.hg_hosted.specs.declared.worker.HostedWorker.{HostedWorker}

-- a caller of the place for those that have left parks a worker in this state there, and takes nothing
abbrev pub Parks : Box WorkerState Global → Way Left → Way Left → Type 0
Parks state before after =
    after ≡ has_parked before.known before.taken before.parked (record { state = Some state })

-- it was parked, as it was, where its service takes in who has left, and nothing was taken there, nor
-- parked besides, unless this caller kept a part of that place
pub record IsGone (worker : HostedWorker) (gone : Departed) : Type 0 where
  pub before : Way Left
  pub parked :
      view gone.left.pass
      ≡ has_parked before.known before.taken before.parked (record { state = worker.state })
  pub taken : (view gone.left.pass).taken ≡ (view worker.shared.left.pass).taken
  pub was : worker.shared.left.kept ≡ None → before ≡ view worker.shared.left.pass
  pub place : gone.left.pass.table_id ≡ worker.shared.left.pass.table_id

-- it comes back in its state, its ways lead where they led, and it took nobody who has left
pub record IsBack (old new : HostedWorker) : Type 0 where
  pub state : new.state ≡ old.state
  pub taken : (view new.shared.left.pass).taken ≡ (view old.shared.left.pass).taken
  pub places : HaveSamePlaces old.shared new.shared

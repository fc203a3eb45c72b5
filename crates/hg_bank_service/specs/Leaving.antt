-- A bank worker leaves.
use Rattle.std.specs.Prelude.{◌≡◌, ℕ, ◌+◌, ◌<◌, ◌≤◌, List, [], Some, length, slice_get}
use Rattle.hg_hosted.specs.declared.worker.HostedWorker.{HostedWorker}
use Rattle.hg_hosted.specs.Departing.{IsBack, IsGone}
use Rattle.hg_hosted.specs.Has.{Has}
use Rattle.hg_hosted.specs.Leaving.{IsIdle}
use Rattle.hg_hosted.specs.declared.leaving.Departed.{Departed}
use Rattle.hg_bank_service.specs.Idle.{AreIdleFrom}
use Rattle.hg_bank_service.specs.declared.unleft.Leaving.{Leaving}
use Rattle.hg_bank_service.specs.declared.unleft.Unleft.{Unleft}
use Rattle.hg_bank_service.specs.declared.unleft.Unleft.TheVariants as unleft
use Rattle.hg_bank_service.specs.declared.worker.BankWorker.{BankWorker}

-- the workers of the lowest cores are still there, and each other has left, by a receipt behind those
-- that there were: the first of these is that of the highest core, and so on down
pub record AreLeft (workers : List HostedWorker) (gone : List Departed)
    (still : List HostedWorker) (now : List Departed) : Type 0 where
  pub all : length still + length now ≡ length workers + length gone
  pub before : (k : ℕ) → k < length gone → slice_get now k ≡ slice_get gone k
  pub left :
      (core k : ℕ) (was : HostedWorker) (one : Departed) → slice_get workers core ≡ Some was
      → slice_get now k ≡ Some one → core + k + 1 ≡ length workers + length gone
      → IsGone was one
  pub back :
      (core : ℕ) (was is : HostedWorker) → slice_get workers core ≡ Some was
      → slice_get still core ≡ Some is → IsBack was is

-- and some are still there
pub record GoesOnLeaving (workers : List HostedWorker) (gone : List Departed) (new : Leaving)
    : Type 0 where
  pub some : 1 ≤ length new.workers.items
  pub left : AreLeft workers gone new.workers.items new.gone.items

-- the worker of this core is the first that holds a segment or has a block in hand
pub record IsFirstBusy (workers : List HostedWorker) (core : ℕ) : Type 0 where
  pub worker : HostedWorker
  pub there : slice_get workers core ≡ Some worker
  pub busy : ¬ (Has IsIdle worker)
  pub lower :
      (other : ℕ) (one : HostedWorker) → other < core → slice_get workers other ≡ Some one
      → Has IsIdle one

-- it stays as it was, for this core; or none of its workers is busy, and it is leaving
abbrev pub IsUnleft : BankWorker → Unleft → Type 0
IsUnleft old (unleft.Busy back core) =
    (back ≡ old) × IsFirstBusy old.workers.items core
IsUnleft old (unleft.Leaving left) =
    AreIdleFrom 0 old.workers.items × GoesOnLeaving old.workers.items [] left

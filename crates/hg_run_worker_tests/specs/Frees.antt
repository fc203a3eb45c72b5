-- A worker has logged a free of a block that was served.
use Rattle.std.specs.Prelude.{ℕ}
use Rattle.hg_place.specs.declared.Handle.{Handle}
use Rattle.hg_history.specs.Service.{IsIn}
use Rattle.hg_roles.specs.Roles.{Call}
use Rattle.hg_run_table.specs.Calls.{log_in}
use Rattle.hg_run_table.specs.FreedOnce.{HasFreed}
use Rattle.hg_run_worker.specs.declared.worker.RunWorker.{RunWorker}

pub record HasLogged (handle : Handle) (worker : RunWorker) : Type 0 where
  pub at : ℕ
  pub call : Call
  pub there : IsIn (log_in worker.call) at call
  pub freed : HasFreed handle call

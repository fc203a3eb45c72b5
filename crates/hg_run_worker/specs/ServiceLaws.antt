-- What the one run of a service says of the logs of its workers.
use Rattle.std.specs.Prelude.{◌≡◌, ◌≢◌, ℕ, List, Some, slice_get}
use Rattle.hg_place.specs.declared.Handle.{Handle}
use Rattle.hg_machine.specs.Policy.{Policy}
use Rattle.hg_history.specs.Service.{IsIn}
use Rattle.hg_roles.specs.Roles.{Call, Role}
use Rattle.hg_run_table.specs.Calls.{log_in}
use Rattle.hg_run_table.specs.FreedOnce.{HasFreed}
use Rattle.hg_run_worker.specs.declared.pool.RunPool.{RunPool}
use Rattle.hg_run_worker.specs.declared.worker.RunWorker.{RunWorker}
use Rattle.hg_run_worker.specs.Service.{IsRunOfService}

-- of the calls that its workers have logged, two of them or one, at most one has freed a block
abbrev pub FreesAreOnce : Type 0
FreesAreOnce =
    (policy : Policy) (words : List ℕ) (pool : RunPool) (lists : List Role)
    (workers : List RunWorker) (i j : ℕ) (one other : RunWorker) (k l : ℕ) (call second : Call)
    (handle : Handle)
    → IsRunOfService policy words pool lists workers
    → slice_get workers i ≡ Some one → slice_get workers j ≡ Some other
    → (one.number ≡ other.number → k ≢ l)
    → IsIn (log_in one.call) k call → IsIn (log_in other.call) l second
    → HasFreed handle call → HasFreed handle second → ⊥

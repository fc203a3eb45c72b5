-- Where the parts of all workers are those of a run, each worker's calls in it are those that it has logged.
use Rattle.std.proofs.Common.{◌≡◌, ℕ, zero, suc, List, [], ◌∷◌, ◌++◌, Some, length, slice_get, ◌+◌, refl, subst}
use Rattle.std.proofs.lemmas.Option.{same_Some, none-some}
use Rattle.hg_machine.specs.Policy.{Policy}
use Rattle.hg_history.specs.Service.{IsIn}
use Rattle.hg_history.proofs.Views.{at_second}
use Rattle.hg_roles.specs.Histories.{IsRunOfAll}
use Rattle.hg_roles.specs.Roles.{Role, of_worker}
use Rattle.hg_run_table.specs.Calls.{log_in}
use Rattle.hg_run_table.proofs.FreedLemmas.{freed_once}
use Rattle.hg_run_worker.specs.declared.pool.RunPool.{RunPool}
use Rattle.hg_run_worker.specs.declared.worker.RunWorker.{RunWorker}
use Rattle.hg_run_worker.specs.AtWork.{view_in}
use Rattle.hg_run_worker.specs.Ending.{parts_of_pool, parts_of_worker}
use Rattle.hg_run_worker.specs.ServiceLaws.{FreesAreOnce}
use Rattle.hg_run_worker.specs.Service.{IsRunOfService, all_parts, parts_of_workers}

-- a worker's part stands among those of all
part_there : (workers : List RunWorker) (at : ℕ) (worker : RunWorker)
    → slice_get workers at ≡ Some worker
    → (j : ℕ) × IsIn (parts_of_workers workers) j (of_worker (view_in worker) (log_in worker.call))
part_there [] at worker e = absurd (none-some _ e)
part_there (w ∷ workers) zero worker e = (
  0,
  subst
      (λ (x : RunWorker).
      IsIn (parts_of_workers (w ∷ workers)) 0 (of_worker (view_in x) (log_in x.call)))
      (same_Some w worker e) refl,
)
part_there (w ∷ workers) (suc at) worker e =
    let rest = part_there workers at worker e in (
      length (parts_of_worker w) + rest.0,
      at_second (parts_of_worker w) (parts_of_workers workers) rest.0
          (of_worker (view_in worker) (log_in worker.call)) rest.1,
    )

-- so among those of the service
pub worker_there : (policy : Policy) (pool : RunPool) (lists : List Role) (workers : List RunWorker)
    (at : ℕ) (worker : RunWorker) → slice_get workers at ≡ Some worker
    → (j : ℕ)
    × IsIn (all_parts policy pool lists workers) j (of_worker (view_in worker) (log_in worker.call))
worker_there policy pool lists workers at worker e =
    let there = part_there workers at worker e in (
      length (parts_of_pool policy pool ++ lists) + there.0,
      at_second (parts_of_pool policy pool ++ lists) (parts_of_workers workers) there.0
          (of_worker (view_in worker) (log_in worker.call)) there.1,
    )

pub run_of_service : (policy : Policy) (words : List ℕ) (pool : RunPool) (lists : List Role)
    (workers : List RunWorker) → IsRunOfAll policy words (all_parts policy pool lists workers)
    → IsRunOfService policy words pool lists workers
run_of_service policy words pool lists workers all = record {
  all = all;
  logs = λ at worker e.
      let there = worker_there policy pool lists workers at worker e in
      all.logs there.0 (view_in worker) (log_in worker.call) there.1;
}

-- of the frees of one block that workers have logged at most one was served
pub frees_are_once : FreesAreOnce
frees_are_once policy words pool lists workers i j one other k l call second handle run first next apart
    at there freed again =
    let a = worker_there policy pool lists workers i one first in
    let b = worker_there policy pool lists workers j other next in
    freed_once policy words (all_parts policy pool lists workers) a.0 b.0 (view_in one) (view_in other)
    (log_in one.call) (log_in other.call) k l call second handle run.all a.1 b.1 apart at there freed again

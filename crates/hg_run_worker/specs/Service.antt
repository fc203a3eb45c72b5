-- A whole service was given back: its pool, its remote lists, its workers.
use Rattle.std.specs.Prelude.{◌≡◌, ◌≢◌, ℕ, List, ◌++◌, Some, length, slice_get, flat_map}
use Rattle.std.specs.Arc.{arc_value}
use Rattle.hg_machine.specs.Policy.{Policy}
use Rattle.hg_history.specs.History.{log_of}
use Rattle.hg_roles.specs.Histories.{IsRunOfAll}
use Rattle.hg_roles.specs.Roles.{Role}
use Rattle.hg_roles.specs.Served.{running}
use Rattle.hg_run_table.specs.declared.table.RunTable.{RunTable}
use Rattle.hg_run_table.specs.Calls.{log_in}
use Rattle.hg_run_worker.specs.declared.closing.NotEnded.{NotEnded}
use Rattle.hg_run_worker.specs.declared.closing.NotEnded.TheVariants.{Shared, Missing}
use Rattle.hg_run_worker.specs.declared.pool.RunPool.{RunPool}
use Rattle.hg_run_worker.specs.declared.worker.RunWorker.{RunWorker}
use Rattle.hg_run_worker.specs.Ending.{HasGathered, parts_of_pool, parts_of_worker}

-- the parts of all workers
abbrev pub parts_of_workers : List RunWorker → List Role
parts_of_workers = flat_map parts_of_worker

-- all parts, those of the remote lists between the pool's and the workers'
abbrev pub all_parts : Policy → RunPool → List Role → List RunWorker → List Role
all_parts policy pool lists workers =
    parts_of_pool policy pool ++ lists ++ parts_of_workers workers

-- There is one run of the policy's machine, from its opening to a state that the words show and that agrees with
-- each part. Each worker's calls in it are those that it has logged, with their answers, in their order
pub record IsRunOfService (policy : Policy) (words : List ℕ) (pool : RunPool) (lists : List Role)
    (workers : List RunWorker) : Type 0 where
  pub all : IsRunOfAll policy words (all_parts policy pool lists workers)
  pub logs :
      (at : ℕ) (worker : RunWorker) → slice_get workers at ≡ Some worker
      → log_of worker.number all.history ≡ log_in worker.call

-- what is left is the table and the parts; where it has no other owner, these are not as many as the service has
abbrev pub IsLeft : Policy → RunTable → List Role → NotEnded → Type 0
IsLeft policy table roles (Shared left parts) =
    (arc_value left ≡ table) × HasGathered table.table.shared.table_id roles parts
IsLeft policy table roles (Missing left parts) =
    (left ≡ table) × HasGathered table.table.shared.table_id roles parts
    × (length roles ≢ (running policy).count)

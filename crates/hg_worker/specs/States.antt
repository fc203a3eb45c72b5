-- Which service a worker is of.
use Rattle.std.specs.Prelude.{◌≡◌}
use Rattle.atomic_table.specs.Seated.{TableId}
use Rattle.hg_machine.specs.Policy.{Policy}
use Rattle.hg_table.specs.Named.{table_of_worker}
use Rattle.hg_worker.specs.declared.state.WorkerState.{WorkerState}

-- it has the service's policy, and its seat is of the service's table
pub record IsNamed (policy : Policy) (table : TableId) (state : WorkerState) : Type 0 where
  pub serves : state.policy ≡ policy
  pub seated : table_of_worker state.seat ≡ table

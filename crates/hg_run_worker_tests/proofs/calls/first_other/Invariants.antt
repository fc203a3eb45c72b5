use Rattle.std.specs.Arc.{arc_value}
use Rattle.hg_run_worker.specs.AtWork.{IsReady}
use Rattle.hg_run_worker.specs.Pools.{IsPoolOf}
use Rattle.hg_run_worker_tests.proofs.calls.first_other.Given as goal

abbrev pub invariant-loop-at : goal.invariant-loop-at
invariant-loop-at l = record {
  ready : IsReady l.worker;
  pool : IsPoolOf (arc_value l.worker.table).table.shared.table_id l.worker.policy l.pool;
}

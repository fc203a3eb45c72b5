-- A pool stays one of the table and the policy of a worker that keeps both.
use Rattle.std.proofs.Common.{subst, sym}
use Rattle.std.specs.Arc.{arc_value}
use Rattle.hg_run_worker.specs.declared.pool.RunPool.{RunPool}
use Rattle.hg_run_worker.specs.declared.worker.RunWorker.{RunWorker}
use Rattle.hg_run_worker.specs.AtWork.{KeepsRest}
use Rattle.hg_run_worker.specs.Pools.{IsPoolOf}

pub pool_stays : {old new : RunWorker} {pool : RunPool} → KeepsRest old new
    → IsPoolOf (arc_value old.table).table.shared.table_id old.policy pool
    → IsPoolOf (arc_value new.table).table.shared.table_id new.policy pool
pool_stays {old} {new} {pool} rest is =
    subst (λ table. IsPoolOf table.table.shared.table_id new.policy pool) (sym rest.table)
    (subst (λ policy. IsPoolOf (arc_value old.table).table.shared.table_id policy pool)
    (sym rest.policy) is)

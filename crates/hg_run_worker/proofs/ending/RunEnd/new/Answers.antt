use Rattle.std.proofs.Common.{[], ◌∷◌, refl}
use Rattle.std.specs.Arc.{arc_value}
use Rattle.hg_roles.specs.Roles.{of_pool}
use Rattle.hg_run_worker.specs.Pools.{pool_part}
use Rattle.hg_run_worker.proofs.ending.RunEnd.new.Goals as goal

pub returns : goal.returns
returns c =
    let t = arc_value c.args.table.now in
    let pool = c.requires.pool in
    record {
      gathered =
          c.pooled.ensures.gathered t.table.shared.table_id
          (of_pool (pool_part t.table.shared.key c.args.pool.pool) ∷ [])
          (record { same = pool.same; have = pool.part; counted = refl });
    }

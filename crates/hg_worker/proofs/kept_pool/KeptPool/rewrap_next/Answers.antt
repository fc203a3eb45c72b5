use Rattle.std.proofs.Common.{◌++◌, sym, subst}
use Rattle.hg_heap.specs.Policies.{AreOf}
use Rattle.hg_worker.specs.Seats.{number_in, AreOnTable}
use Rattle.hg_worker.proofs.Pools.{pool_without, without_there}
use Rattle.hg_worker.proofs.kept_pool.KeptPool.rewrap_next.Goals as goal

pub invariant_of-self : goal.invariant_of-self
invariant_of-self g c =
    let policy = g.N.ServiceName.policy in
    let pool = c.args.self.now.pool in
    let moved = c.rewrap_next.ensures.moved in
    record {
      each = subst (λ p. AreOf number_in policy (p.orphans ++ p.fresh)) (sym moved.left)
          (pool_without number_in policy pool (number_in moved.one.slots) c.args.self.now.each);
      named = subst (λ p. AreOnTable g.N.TableName.table (p.orphans ++ p.fresh)) (sym moved.left)
          (λ k there.
          c.args.self.now.named k
          (without_there number_in pool (number_in moved.one.slots) k there));
    }

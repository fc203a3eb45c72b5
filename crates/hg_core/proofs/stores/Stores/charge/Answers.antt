use Rattle.std.proofs.Common.{arith}
use Rattle.hg_core.proofs.Charged.{none_told, charge_told}
use Rattle.hg_core.proofs.stores.Stores.charge.Goals as goal

pub returns-then-worker-workers : goal.returns-then-worker-workers
returns-then-worker-workers c =
    none_told c.self.inside c.args.self.now c.args.worker c.args.tenant c.self.view_is
    c.self.invariant (omega (arith, c.workers.ensures.workers, c.if-worker-workers.true))

pub returns : goal.returns
returns c =
    charge_told c.self.inside c.args.self.now c.args.worker c.args.tenant c.self.view_is
    c.self.invariant c.from.result c.charge.result c.index-heap.result.now
    (omega (arith, c.workers.ensures.workers, c.if-worker-workers.false)) c.from.ensures
    c.index-heap.ensures c.settled.ensures.each c.settled.ensures.once c.charge.ensures.counted
    c.charge.ensures.nobody

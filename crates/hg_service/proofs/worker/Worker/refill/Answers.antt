use Rattle.std.proofs.Common.{◌++◌, subst, sym}
use Rattle.hg_heap.specs.Policies.{AreOf}
use Rattle.hg_worker.specs.Seats.{number_in, records_in, part_of_seat}
use Rattle.hg_worker.specs.Workers.{had}
use Rattle.hg_service.proofs.Behind.{came}
use Rattle.hg_service.proofs.worker.Worker.refill.Goals as goal

pub returns-clause-came : goal.returns-clause-came
returns-clause-came g c segment =
    let pool = c.deref_mut-pool.result.now.pool in
    came number_in records_in part_of_seat c.args.self.now.own.inner.value.policy c.args.arena segment
    pool (had c.args.self.now.own) (had c.refill_from.new.self)
    (subst (λ policy. AreOf number_in policy (pool.orphans ++ pool.fresh))
    (sym c.args.self.now.own.named.serves) c.deref_mut-pool.result.now.each)
    c.refill_from.new.pool.pool c.refill_from.result c.refill_from.ensures.refilled
    c.refill_from.ensures.unheld

pub returns-clause-refilled : goal.returns-clause-refilled
returns-clause-refilled g c = record {
  old = c.deref_mut-pool.result.now.pool;
  new = c.refill_from.new.pool.pool;
  of =
      subst (λ policy. AreOf number_in policy
      (c.deref_mut-pool.result.now.pool.orphans ++ c.deref_mut-pool.result.now.pool.fresh))
      (sym c.args.self.now.own.named.serves) c.deref_mut-pool.result.now.each;
  refilled = c.refill_from.ensures.refilled;
}

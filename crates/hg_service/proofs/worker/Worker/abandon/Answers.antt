use Rattle.std.proofs.Common.{sym}
use Rattle.hg_worker.specs.Seats.{number_in}
use Rattle.hg_service.proofs.Behind.{abandons_nothing}
use Rattle.hg_service.proofs.worker.Worker.abandon.Goals as goal

pub returns-then-not-holds-clause-abandoned : goal.returns-then-not-holds-clause-abandoned
returns-then-not-holds-clause-abandoned g c =
    abandons_nothing number_in c.args.segment c.args.self.now.own.inner.value.heap (sym c.if-not-holds.ensures)

pub returns-clause-abandoned : goal.returns-clause-abandoned
returns-clause-abandoned g c = record {
  old = c.deref_mut-pool.result.now.pool;
  new = c.abandon_to.new.pool.pool;
  abandoned = c.abandon_to.ensures.abandoned;
}

use Rattle.std.proofs.Common.{sym, subst}
use Rattle.hg_worker.specs.Seats.{number_in}
use Rattle.hg_service.specs.Leaving.{AbandonsEach, all_segments}
use Rattle.hg_service.proofs.worker.Worker.into_leaver.Goals as goal

pub returns-clause-abandoned : goal.returns-clause-abandoned
returns-clause-abandoned g c =
    subst (λ own. AbandonsEach number_in all_segments c.args.self.own.inner.value.heap own.inner.value.heap)
    (sym c.new.ensures.own) c.empty-delivery.ensures.abandoned

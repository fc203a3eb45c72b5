use Rattle.std.proofs.Common.{◌≡◌, map, rules, sym, subst}
use Rattle.hg_service_replies.specs.Opening.{ready}
use Rattle.hg_service_replies.specs.Owned.{AreItsWorkers}
use Rattle.hg_service_replies.proofs.Its.{its_new}
use Rattle.hg_service_replies.proofs.opening.open.Goals as goal

pub invariant_of-result : goal.invariant_of-result
invariant_of-result c =
    let there : c.in_ok-workers.workers.items ≡ map ready c.in_ok-service.workers.items = search rules in
    record {
      own = subst (AreItsWorkers c.in_ok-service.service) (sym there)
          (its_new c.in_ok-service.service c.in_ok-service.workers.items c.in_ok-service.ensures);
    }

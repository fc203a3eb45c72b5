use Rattle.std.proofs.Common.{rules, subst}
use Rattle.hg_bank_service.specs.Idle.{AreIdleFrom}
use Rattle.hg_bank_service.specs.Leaving.{GoesOnLeaving}
use Rattle.hg_bank_service.proofs.worker.BankWorker.leave.Goals as goal

pub returns-clause-unleft : goal.returns-clause-unleft
returns-clause-unleft c = (
  subst (AreIdleFrom 0) (search rules) c.in_default.ensures.none,
  subst (λ gone. GoesOnLeaving c.args.self.workers.items gone c.in-Err.left) c.args.self.here
      c.in-Err.ensures,
)

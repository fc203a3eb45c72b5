use Rattle.hg_service.specs.Back.{AreBack}
use Rattle.hg_service.proofs.caller_locked.CallerLocked.first_out.Given as goal

abbrev pub invariant-loop-number : goal.invariant-loop-number
invariant-loop-number g l = AreBack l.self.workers.items l.number

use Rattle.hg_bank_service.proofs.Taking.{IsSeeking}
use Rattle.hg_bank_service.proofs.refilling.next_with_segment.Given as goal

abbrev pub invariant-loop-before : goal.invariant-loop-before
invariant-loop-before l = record {
  seeking : IsSeeking l.policy l.number l.current l.arena l.fn.workers.items l.before
      l.workers.items l.sums;
}

use Rattle.hg_bank_service.proofs.Placing.{IsAsking}
use Rattle.hg_bank_service.proofs.allocating.next_with_place.Given as goal

abbrev pub invariant-loop-before : goal.invariant-loop-before
invariant-loop-before l = record {
  asking : IsAsking l.policy l.number l.current l.actor l.arena l.bytes l.fn.workers.items l.before
      l.workers.items l.sums;
}

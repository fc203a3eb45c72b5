use Rattle.std.proofs.Common.{arith}
use Rattle.std.proofs.lemmas.List.Elements.{All-pop}
use Rattle.hg_table.specs.Seats.{KnowsNothing, part_on}
use Rattle.hg_service.proofs.Opened.{new_more}
use Rattle.hg_service.proofs.opening.new_workers.Goals as goal

pub loop-number-preserved : goal.loop-number-preserved
loop-number-preserved g c = record {
  left = omega (arith, c.in-Some.ensures.cases, c.loop-number.invariant.left);
  nothing = (All-pop (λ seat. KnowsNothing (part_on seat.inner.badge)) _ _ c.pop.result
      c.pop.ensures.items c.loop-number.invariant.nothing).0;
  new = new_more c.loop-number.number _ _ c.in_ok-new_worker.field-0 c.in_ok-push.ensures.items
      c.loop-number.invariant.new c.in_ok-new_worker.ensures;
}

use Rattle.std.proofs.Common.{slice_index, slice_set, refl, ap, subst, arith}
use Rattle.hg_machine.specs.declared.Answer.TheVariants as answer
use Rattle.hg_bank_service.specs.Allocating.{GivesBlock, RefusesBlock}
use Rattle.hg_bank_service.specs.Choosing.{IsServed}
use Rattle.hg_bank_service.proofs.Currents.{served_there}
use Rattle.hg_bank_service.proofs.worker.BankWorker.alloc_fitting.Goals as goal

pub invariant_of-self-2 : goal.invariant_of-self-2
invariant_of-self-2 c =
    let old = c.args.self.now in
    let long = c.next_with_place.ensures.all in
    record {
      below = old.below;
      some = omega (arith, long, old.some);
      most = omega (arith, long, old.most);
      of = c.next_with_place.ensures.of;
      there = served_there old.currents _ old.there c.in-Some.ensures.ends;
      counted = c.next_with_place.ensures.counted;
      here = old.here;
      room = omega (arith, long, old.room);
    }

pub returns : goal.returns
returns c =
    let old = c.args.self.now in
    let block = c.in-Some.block in
    record {
      served = subst (λ n. IsServed (RefusesBlock c.args.actor c.args.arena c.args.bytes)
          (GivesBlock c.args.actor c.args.arena c.args.bytes (answer.Block block.handle))
          (slice_index old.currents n) block.core old.workers.items
          c.next_with_place.new.workers.items) c.from.ensures c.in-Some.ensures.ends;
      currents = ap (λ n. slice_set old.currents n block.core) c.from-2.ensures;
      policy = refl;
      number = refl;
    }

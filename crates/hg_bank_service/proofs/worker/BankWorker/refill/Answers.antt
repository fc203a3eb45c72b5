use Rattle.std.proofs.Common.{length, slice_index, slice_set, refl, ap, subst}
use Rattle.hg_machine.specs.declared.Answer.TheVariants as answer
use Rattle.hg_bank_service.specs.Choosing.{AreAsked, IsServed}
use Rattle.hg_bank_service.specs.Refilling.{AnswersRefill, RefillWaits}
use Rattle.hg_bank_service.proofs.worker.BankWorker.refill.Goals as goal

pub returns-in-Segment : goal.returns-in-Segment
returns-in-Segment c =
    let old = c.args.self.now in
    let one = c.in-Segment.segment in
    record {
      served = subst (λ n. IsServed (AnswersRefill c.args.arena answer.NoSegment)
          (AnswersRefill c.args.arena (answer.Refilled one.segment)) (slice_index old.currents n)
          one.core old.workers.items c.next_with_segment.new.workers.items) c.from.ensures
          c.in-Segment.ensures.ends;
      currents = ap (λ n. slice_set old.currents n one.core) c.from-in-Segment.ensures;
      policy = refl;
      number = refl;
    }

pub returns-in-Busy : goal.returns-in-Busy
returns-in-Busy c =
    let old = c.args.self.now in
    record {
      core = c.in-Busy._core;
      served = subst (λ n. IsServed (AnswersRefill c.args.arena answer.NoSegment)
          (RefillWaits c.args.arena) (slice_index old.currents n) c.in-Busy._core
          old.workers.items c.next_with_segment.new.workers.items) c.from.ensures
          c.in-Busy.ensures.ends;
      rest = record { policy = refl; number = refl; currents = refl };
    }

pub returns-in-Nothing : goal.returns-in-Nothing
returns-in-Nothing c =
    let old = c.args.self.now in
    record {
      asked = subst (λ n. AreAsked (AnswersRefill c.args.arena answer.NoSegment)
          (slice_index old.currents n) (length old.workers.items) old.workers.items
          c.next_with_segment.new.workers.items) c.from.ensures c.in-Nothing.ensures.ends;
      rest = record { policy = refl; number = refl; currents = refl };
    }

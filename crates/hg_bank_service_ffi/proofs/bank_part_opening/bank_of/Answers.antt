use Rattle.std.proofs.Common.{Ok, Some, ap, subst}
use Rattle.hg_bank_service_replies.specs.Closing.{PartCloses}
use Rattle.hg_bank_service_replies.specs.declared.part.BankPart.TheVariants as part
use Rattle.hg_bank_service_ffi.proofs.Waiting.{closes_gone}
use Rattle.hg_bank_service_ffi.proofs.bank_part_opening.bank_of.Goals as goal

pub returns-in-Err-new-clause-none : goal.returns-in-Err-new-clause-none
returns-in-Err-new-clause-none c = record {
  shut = λ isnt. absurd (isnt c.in-Some.ensures.open.0);
  done = λ is. record {
    was = c.in-Some.part.value;
    is = part.Bank c.in-Err-new.failed.value;
    before = c.in-Some.ensures.open.1;
    after = c.kept-in-Err-new.ensures;
    does = (
      Some c.in-Ok.bank,
      record {
        made = closes_gone c.in-Some.part.value c.in-Ok.bank c.close-made.new.part
            (subst (λ p. PartCloses p (Ok c.in-Ok.bank) c.close-made.new.part) c.deref_mut.ensures.value c.in-Ok.ensures.closes);
        waits = ap part.Bank c.in-Err-new.ensures.value_returned;
        reply_is = c.plain-in-Err-new.ensures;
      },
    );
  };
}

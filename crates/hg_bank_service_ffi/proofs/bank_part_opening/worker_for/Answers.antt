use Rattle.std.proofs.Common.{Ok, refl, subst}
use Rattle.hg_bank_service_replies.specs.Taking.{GivesWorker}
use Rattle.hg_bank_service_ffi.proofs.bank_part_opening.worker_for.Goals as goal

pub returns-clause-given : goal.returns-clause-given
returns-clause-given c = (
  c.in_ok-given.field-0,
  refl,
  record {
    is_open = c.in-Some.ensures.open.0;
    given = record {
      was = c.in-Some.part.value;
      is = c.take_worker-given.new.part;
      before = c.in-Some.ensures.open.1;
      after = c.kept.ensures;
      does = subst (λ p. GivesWorker p c.args.number (Ok c.in_ok-given.field-0) c.take_worker-given.new.part) c.deref_mut.ensures.value c.in_ok-given.ensures.given;
    };
  },
)

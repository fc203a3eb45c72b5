use Rattle.std.proofs.Common.{refl}
use Rattle.hg_bank_service_replies.proofs.Its.{its_taken}
use Rattle.hg_bank_service_replies.proofs.taking.take_worker.Goals as goal

pub invariant_of-opened : goal.invariant_of-opened
invariant_of-opened c =
    let opened = c.in-Service.opened in
    record {
      own = its_taken opened.service opened.workers.items c.taken.new.workers.items c.args.number
          c.taken.result c.taken.ensures opened.own;
    }

pub returns-in-Some-clause-given : goal.returns-in-Some-clause-given
returns-in-Some-clause-given c =
    rw c.in-Service.is (
      c.in-Service.opened.own c.args.number c.in-Some.worker c.in-Some.ensures.there,
      record { left = _; now = refl; service = refl; workers = c.in-Some.ensures },
    )

pub returns-in-None-clause-given : goal.returns-in-None-clause-given
returns-in-None-clause-given c =
    rw c.in-Service.is
    (c.plain.ensures, record { left = _; now = refl; service = refl; workers = c.in-None.ensures })

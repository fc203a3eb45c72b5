use Rattle.std.proofs.Common.{subst, sym}
use Rattle.hg_bank_service.specs.Leaving.{IsFirstBusy, IsUnleft}
use Rattle.hg_bank_service.specs.declared.worker.BankWorker.{BankWorker}
use Rattle.hg_bank_service_replies.specs.Leaving.{StaysFor}
use Rattle.hg_bank_service_replies.proofs.leaving.leave_worker.Goals as goal

pub busy_reply-why-requires : goal.busy_reply-why-requires
busy_reply-why-requires c =
    let busy = subst (IsUnleft c.args.worker) c.in-Err-Busy.field-0-is c.in-Err-Busy.ensures.unleft in
    subst (λ (worker : BankWorker). IsFirstBusy worker.workers.items c.in-Err-Busy.core) (sym busy.0) busy.1

pub returns-in-Err-Busy : goal.returns-in-Err-Busy
returns-in-Err-Busy c =
    let busy = subst (IsUnleft c.args.worker) c.in-Err-Busy.field-0-is c.in-Err-Busy.ensures.unleft in
    (busy.0, subst (λ (worker : BankWorker). StaysFor worker.workers.items c.busy_reply-why.result) busy.0 c.busy_reply-why.ensures)

pub returns-in-Err-Leaving : goal.returns-in-Err-Leaving
returns-in-Err-Leaving c =
    let left = subst (IsUnleft c.args.worker) c.in-Err-Leaving.field-0-is c.in-Err-Leaving.ensures.unleft in
    (c.plain-in-Err-Leaving.ensures, left.0, left.1)

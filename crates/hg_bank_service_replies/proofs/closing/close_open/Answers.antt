use Rattle.std.proofs.Common.{Some, None, ap, subst, ◌∙◌, rules}
use Rattle.hg_bank_replies.specs.Replies.{placed}
use Rattle.hg_bank_service.specs.Closing.{IsUnclosedBank}
use Rattle.hg_bank_service_replies.proofs.Its.{its_closed, its_left, its_stopped}
use Rattle.hg_bank_service_replies.proofs.closing.close_open.Goals as goal

pub invariant_of-left : goal.invariant_of-left
invariant_of-left c = let opened = c.args.opened in record {
  own = its_left opened.service opened.workers.items c.let_leave.new.workers.items c.let_leave.ensures.leave opened.own;
}

pub invariant_of-left-in-Err-Running : goal.invariant_of-left-in-Err-Running
invariant_of-left-in-Err-Running c =
    let opened = c.args.opened in
    let left = c.let_leave.new.workers.items in
    let stops = subst (IsUnclosedBank opened.service) c.in-Err-Running.field-0-is c.in-Err-Running.ensures.unclosed in
    record {
      own = its_stopped opened.service c.in-Err-Running.service c.in-Err-Running.core c.in-Err-Running.fault left stops
          (its_left opened.service opened.workers.items left c.let_leave.ensures.leave opened.own);
    }

pub invariant_of-left-in-Err-Memory : goal.invariant_of-left-in-Err-Memory
invariant_of-left-in-Err-Memory c =
    let opened = c.args.opened in
    let left = c.let_leave.new.workers.items in
    let closed = subst (IsUnclosedBank opened.service) c.in-Err-Memory.field-0-is c.in-Err-Memory.ensures.unclosed in
    record {
      own = its_closed opened.service c.in-Err-Memory.service left closed
          (its_left opened.service opened.workers.items left c.let_leave.ensures.leave opened.own);
    }

pub returns-in-Err-Running-clause-closes : goal.returns-in-Err-Running-clause-closes
returns-in-Err-Running-clause-closes c = record {
  workers = c.let_leave.ensures.leave;
  why = Some (Some (c.in-Err-Running.core, c.in-Err-Running.fault));
  told = c.fault_reply.ensures.told;
  still = (
    subst (IsUnclosedBank c.args.opened.service) c.in-Err-Running.field-0-is c.in-Err-Running.ensures.unclosed,
    search rules,
  );
}

pub returns-in-Err-Memory-clause-closes : goal.returns-in-Err-Memory-clause-closes
returns-in-Err-Memory-clause-closes c = record {
  workers = c.let_leave.ensures.leave;
  why = Some None;
  told = c.plain-in-Err-Memory.ensures;
  still = (
    subst (IsUnclosedBank c.args.opened.service) c.in-Err-Memory.field-0-is c.in-Err-Memory.ensures.unclosed,
    search rules,
  );
}

pub returns-in-Err-Lost-clause-closes : goal.returns-in-Err-Lost-clause-closes
returns-in-Err-Lost-clause-closes c = (
  c.in-Err-Lost.lost,
  subst (IsUnclosedBank c.args.opened.service) c.in-Err-Lost.field-0-is c.in-Err-Lost.ensures.unclosed,
  c.placed-why.ensures ∙ ap (placed 28 c.in-Err-Lost.lost.core) c.number.ensures.number,
)

use Rattle.std.proofs.Common.{Some, ap, subst, ◌∙◌, rules}
use Rattle.hg_hosted.specs.Closing.{IsUnclosed}
use Rattle.hg_reply.specs.Replies.{valued}
use Rattle.hg_service_replies.proofs.Its.{its_left, its_still}
use Rattle.hg_service_replies.proofs.closing.close_open.Goals as goal

pub invariant_of-left : goal.invariant_of-left
invariant_of-left c = let opened = c.args.opened in record {
  own = its_left opened.service opened.workers.items c.let_leave.new.workers.items c.let_leave.ensures.leave opened.own;
}

pub invariant_of-left-in-Err-Running : goal.invariant_of-left-in-Err-Running
invariant_of-left-in-Err-Running c =
    let opened = c.args.opened in
    let left = c.let_leave.new.workers.items in
    let goes = subst (IsUnclosed opened.service) c.in-Err-Running.field-0-is c.in-Err-Running.ensures.unclosed in
    record {
      own = its_still opened.service c.in-Err-Running.service left goes.policy goes.table goes.places
          (its_left opened.service opened.workers.items left c.let_leave.ensures.leave opened.own);
    }

pub returns-in-Err-Running-clause-closes : goal.returns-in-Err-Running-clause-closes
returns-in-Err-Running-clause-closes c = record {
  workers = c.let_leave.ensures.leave;
  why = Some c.in-Err-Running.fault;
  told = c.fault_reply.ensures.told;
  still = (
    subst (IsUnclosed c.args.opened.service) c.in-Err-Running.field-0-is c.in-Err-Running.ensures.unclosed,
    search rules,
  );
}

pub returns-in-Err-Lost-clause-closes : goal.returns-in-Err-Lost-clause-closes
returns-in-Err-Lost-clause-closes c = (
  c.in-Err-Lost.place,
  _,
  subst (IsUnclosed c.args.opened.service) c.in-Err-Lost.field-0-is c.in-Err-Lost.ensures.unclosed,
  c.valued.ensures ∙ ap (valued 28) c.number.ensures.number,
)

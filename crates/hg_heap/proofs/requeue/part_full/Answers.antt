use Rattle.std.proofs.Common.{◌∙◌, Bool, ap, sym, not}
use Rattle.hg_heap.specs.Requeued.{requeued}
use Rattle.hg_heap.proofs.Requeuing.{requeued_stays}
use Rattle.hg_heap.proofs.requeue.part_full.Goals as goal

pub returns-then-not-is_full : goal.returns-then-not-is_full
returns-then-not-is_full c = λ key on. sym
    (ap (λ (b : Bool). requeued key c.args.page (not b) c.args.queues.now) c.if-not-is_full.true
    ∙ requeued_stays c.args.queues.now key c.args.page on)

pub returns : goal.returns
returns c = λ key on. c.remove.ensures.removed
    ∙ sym (ap (λ (b : Bool). requeued key c.args.page (not b) c.args.queues.now)
    c.if-not-is_full.false)

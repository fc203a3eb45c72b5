use Rattle.std.proofs.Common.{◌∙◌, sym}
use Rattle.std.proofs.lemmas.Bool.{false≢true}
use Rattle.hg_size.specs.Sizes.{number_of_size}
use Rattle.hg_size.specs.SizeLaws.{key_of}
use Rattle.hg_heap.proofs.Requeuing.{stays_is, pushes_is}
use Rattle.hg_heap.proofs.requeue.requeue.Goals as goal

pub returns-then-not-has-clause-requeued : goal.returns-then-not-has-clause-requeued
returns-then-not-has-clause-requeued c =
    let key = key_of c.args.arena (number_of_size c.args.class) in
    c.push_front.ensures.pushed
    ∙ pushes_is c.args.queues.now key c.args.page c.args.is_full c.if-is_full.false
    (λ on. absurd (false≢true (sym c.if-not-has.true ∙ c.has.ensures.there.1 on)))

pub returns-else-not-has-clause-requeued : goal.returns-else-not-has-clause-requeued
returns-else-not-has-clause-requeued c =
    let key = key_of c.args.arena (number_of_size c.args.class) in
    stays_is c.args.queues.now key c.args.page c.args.is_full c.if-is_full.false
    (c.has.ensures.there.0 c.if-not-has.false) c.requires.its_own

use Rattle.std.proofs.Common.{sym}
use Rattle.hg_heap.proofs.Freeable.{one_may_be_freed}
use Rattle.hg_heap.proofs.freeing.freeable.Goals as goal

pub returns-in-Denied-clause-none : goal.returns-in-Denied-clause-none
returns-in-Denied-clause-none c = λ word slot fits none.
    one_may_be_freed c.args.policy.now c.args.actor.0 c.args.handle c.in-Open.generation
    c.in-Open.owner c.pack-expected.result word c.in-Denied.field-0 c.pack-expected.ensures
    (sym (rw c.judge.ensures at c.in-Denied.is)) slot (rw c.in-Open.is at fits) none

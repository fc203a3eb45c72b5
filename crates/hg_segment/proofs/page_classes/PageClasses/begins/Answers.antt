use Rattle.std.proofs.Common.{arith}
use Rattle.hg_segment.proofs.MarkedLemmas.{begins_marked}
use Rattle.hg_segment.proofs.page_classes.PageClasses.begins.Goals as goal

pub returns : goal.returns
returns c page low = begins_marked c.args.self.now _ _ c.starts.result c.args.class page
    (rw (← c.self.view_is) c.self.invariant) (omega (arith, c.self.known-fits))
    c.pages_of.ensures.value low (c.starts.ensures page)

use Rattle.std.proofs.Common.{arith}
use Rattle.hg_size.proofs.Covers.{begins}
use Rattle.hg_segment.specs.Kept.{class_at}
use Rattle.hg_segment.proofs.MarkedLemmas.{assigned_marked}
use Rattle.hg_segment.proofs.page_classes.PageClasses.assign.Goals as goal

pub unmark-self-inside-requires : goal.unmark-self-inside-requires
unmark-self-inside-requires c =
    let fit =
    (begins (class_at c.args.self.now) c.args.class c.args.page c.requires.begins).inside in
    record { within = omega (arith, fit, c.requires.page, c.pages_of.ensures.value) }

pub invariant_of-self : goal.invariant_of-self
invariant_of-self c = rw c.deref_mut.ensures.value (assigned_marked _ _ _ _ c.args.class c.args.page
    c.self.invariant c.pages_of.ensures.value c.requires.page
    c.unmark-self-inside.ensures.outside (rw (← c.self.view_is) at c.requires.begins)
    c.unmark-self-inside.ensures.inside)

use Rattle.std.proofs.Common.{arith, sym, ◌∙◌, ◌≡◌, Some}
use Rattle.hg_segment.specs.Kept.{class_at}
use Rattle.hg_segment.proofs.MarkedLemmas.{cleared_marked}
use Rattle.hg_segment.proofs.page_classes.PageClasses.clear.Goals as goal

pub mark-self-inside-requires : goal.mark-self-inside-requires
mark-self-inside-requires c =
    let was : class_at c.args.self.now c.args.page ≡ Some c.in-Some.class =
    sym c.get.ensures ∙ c.in-Some.is in
    let fit = (c.requires.runs c.args.page).inside c.in-Some.class was in
    record { within = omega (arith, fit, c.requires.page, c.pages_of.ensures.value) }

pub invariant_of-self : goal.invariant_of-self
invariant_of-self c =
    let was : class_at c.args.self.now c.args.page ≡ Some c.in-Some.class =
    sym c.get.ensures ∙ c.in-Some.is in
    rw c.deref_mut.ensures.value (cleared_marked _ _ _ _ c.in-Some.class c.args.page
    c.self.invariant c.pages_of.ensures.value c.requires.page c.mark-self-inside.ensures.outside
    (rw (← c.self.view_is) at c.requires.runs) (rw (← c.self.view_is) at was)
    c.mark-self-inside.ensures.inside)

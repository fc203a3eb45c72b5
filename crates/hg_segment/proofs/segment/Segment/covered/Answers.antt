use Rattle.std.proofs.Common.{◌≡◌, false, sym, ◌∙◌}
use Rattle.hg_size.specs.Runs.{is_covered}
use Rattle.hg_segment.specs.Kept.{class_at}
use Rattle.hg_segment.proofs.MarkedLemmas.{classed_uncovered}
use Rattle.hg_segment.proofs.Retirings.{class_some}
use Rattle.hg_segment.proofs.segment.Segment.covered.Goals as goal

pub returns-else-is_none : goal.returns-else-is_none
returns-else-is_none g c =
    let some = class_some c.self.inside.classes c.args.page c.get.result c.is_none.result
    c.get.ensures c.is_none.ensures c.if-is_none.false in
    let off : is_covered (class_at c.args.self.now.classes) c.args.page ≡ false =
    rw (← c.self.view_is)
    (classed_uncovered (class_at c.self.inside.classes) c.args.page c.self.invariant.runs some) in
    c.if-is_none.false ∙ sym off

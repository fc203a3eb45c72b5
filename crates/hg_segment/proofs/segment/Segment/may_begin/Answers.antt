use Rattle.hg_segment.proofs.MarkedLemmas.{mark_told}
use Rattle.hg_segment.proofs.segment.Segment.may_begin.Goals as goal

pub returns : goal.returns
returns g c =
    mark_told _ _ _ c.is_marked.ensures
    (rw (← c.self.view_is) (c.begins.ensures c.args.page c.requires))

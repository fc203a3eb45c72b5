use Rattle.std.proofs.Common.{◌∙◌, sym, ap, Some, get_or}
use Rattle.hg_segment.specs.Kept.{Kept, class_at}
use Rattle.hg_heap.proofs.Founds.{told_of}
use Rattle.hg_heap.proofs.heap.Heap.page_class.Goals as goal

pub returns : goal.returns
returns g c =
    told_of g.S.SlotWords.number
    (λ (k : Kept g.row.S.Denot). class_at k.classes c.args.page)
    c.args.self.now.segments c.args.segment c.in-Some.found c.index.result.now
    c.in-Some.ensures.some
    (c.index.ensures ∙ ap (λ h. get_or h.segments c.in-Some.found c.index.result.now)
    c.self.view_is)
    ∙ ap Some (sym c.class_of.ensures)

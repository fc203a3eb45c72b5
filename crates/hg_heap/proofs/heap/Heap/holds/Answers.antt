use Rattle.std.proofs.Common.{◌∙◌}
use Rattle.hg_heap.proofs.Founds.{held_by_found}
use Rattle.hg_heap.proofs.heap.Heap.holds.Goals as goal

pub returns : goal.returns
returns g c = c.is_some.ensures ∙ held_by_found g.S.SlotWords.number c.args.self.now.segments
    c.args.segment c.found.result c.found.ensures.none c.found.ensures.some

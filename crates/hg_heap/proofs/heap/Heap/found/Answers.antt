use Rattle.hg_heap.proofs.Founds.{held_beyond, told_none, told_some}
use Rattle.hg_heap.proofs.heap.Heap.found.Goals as goal

pub returns-then-segment-ge-MAX_SEGMENTS-clause-none :
    goal.returns-then-segment-ge-MAX_SEGMENTS-clause-none
returns-then-segment-ge-MAX_SEGMENTS-clause-none g c =
    held_beyond g.S.SlotWords.number g.met.S.SlotWords.numbered c.args.self.now.segments
    c.args.segment c.if-segment-ge-MAX_SEGMENTS.true

pub returns-clause-none : goal.returns-clause-none
returns-clause-none g c = rw (← c.self.view_is, c.deref.ensures)
    (told_none g.S.SlotWords.number _ _ c.args.segment c.self.invariant.tabled
    c.if-segment-ge-MAX_SEGMENTS.false)

pub returns-clause-some : goal.returns-clause-some
returns-clause-some g c = rw (← c.self.view_is, c.deref.ensures)
    (told_some g.S.SlotWords.number _ _ c.args.segment c.self.invariant.tabled
    c.if-segment-ge-MAX_SEGMENTS.false)

use Rattle.hg_heap.proofs.SettledHeap.{right_new}
use Rattle.hg_heap.proofs.heap.Heap.new.Goals as goal

pub invariant_of-result : goal.invariant_of-result
invariant_of-result g c = rw (c.in_ok-table.ensures.ok, c.in_ok-segments.ensures.items)
    (right_new g.S.SlotWords.number g.S.SlotWords.records _ _ _ c.in_ok-segments.ensures.exact
    c.in_ok-queues.ensures.queues c.in_ok-queues.ensures.empty c.in_ok-charges.ensures.all
    c.in_ok-charges.ensures.none)

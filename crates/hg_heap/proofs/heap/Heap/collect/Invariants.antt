use Rattle.hg_heap.proofs.CollectLoop.{AreCollected}
use Rattle.hg_heap.proofs.heap.Heap.collect.Given as goal

abbrev pub invariant-loop-page : goal.invariant-loop-page
invariant-loop-page g l =
    AreCollected g.S.SlotWords.number g.S.SlotWords.records l.page l.count l.fn.self l.self

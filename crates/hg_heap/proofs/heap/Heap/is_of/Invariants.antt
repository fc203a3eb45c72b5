use Rattle.std.proofs.Common.{take}
use Rattle.std.specs.Prelude.{All}
use Rattle.hg_heap.specs.Policies.{IsOf}
use Rattle.hg_heap.proofs.heap.Heap.is_of.Given as goal

abbrev pub invariant-loop-segment : goal.invariant-loop-segment
invariant-loop-segment g l =
    All (IsOf g.S.SlotWords.number l.policy) (take l.segment-index l.segment-items)

use Rattle.std.proofs.Common.{◌≡◌, ◌*◌, ℕ, None, find}
use Rattle.std.specs.List.{range_with_len}
use Rattle.hg_heap.specs.Held.{is_some_place}
use Rattle.hg_heap.specs.Choice.{blank_on}
use Rattle.hg_heap.proofs.heap.Heap.blank_page.Given as goal

abbrev pub invariant-loop-segment : goal.invariant-loop-segment
invariant-loop-segment g l =
    find (λ (page : ℕ). is_some_place (blank_on g.S.SlotWords.number g.S.SlotWords.records
    l.self.segments l.fn.arena l.fn.class page)) (range_with_len 0 (l.segment * 16)) ≡ None

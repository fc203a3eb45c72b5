use Rattle.std.proofs.Common.{◌≡◌, ◌++◌, ◌*◌}
use Rattle.std.specs.List.{range_with_len}
use Rattle.hg_worker.specs.Listing.{open_among}
use Rattle.hg_worker.proofs.listing.note_segment.Given as goal

-- the open places of the segment so far
abbrev pub invariant-loop-number : goal.invariant-loop-number
invariant-loop-number g l =
    l.places.items
    ≡ l.fn.places.items
    ++ open_among g.S.SlotWords.number g.S.SlotWords.records l.heap.segments
    (range_with_len (l.segment * 8192) l.number)

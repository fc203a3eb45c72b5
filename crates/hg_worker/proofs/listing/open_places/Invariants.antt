use Rattle.std.proofs.Common.{◌≡◌}
use Rattle.hg_worker.specs.Listing.{open_among, places_below}
use Rattle.hg_worker.proofs.listing.open_places.Given as goal

-- the open places of the segments so far
abbrev pub invariant-loop-segment : goal.invariant-loop-segment
invariant-loop-segment g l =
    l.places.items
    ≡ open_among g.S.SlotWords.number g.S.SlotWords.records l.heap.segments
    (places_below l.segment)

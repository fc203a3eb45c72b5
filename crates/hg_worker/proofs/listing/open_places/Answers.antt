use Rattle.std.proofs.Common.{◌++◌, List, sym, ap, ◌∙◌}
use Rattle.hg_place.specs.declared.Place.{Place}
use Rattle.hg_worker.specs.Listing.{open_among, places_in}
use Rattle.hg_worker.proofs.Listings.{below_none, below_more}
use Rattle.hg_worker.proofs.listing.open_places.Goals as goal

pub loop-segment-init : goal.loop-segment-init
loop-segment-init g c =
    let w = g.S.SlotWords in
    c.new-places.ensures.items
    ∙ sym (below_none w.number w.records c.args.heap.now.segments)

pub loop-segment-preserved : goal.loop-segment-preserved
loop-segment-preserved g c =
    let w = g.S.SlotWords in
    let segments = c.args.heap.now.segments in
    let segment = c.loop-segment.segment in
    c.in_ok-note_segment.ensures
    ∙ ap (λ (so : List Place). so ++ open_among w.number w.records segments (places_in segment))
    c.loop-segment.invariant
    ∙ sym (below_more w.number w.records segments segment)

use Rattle.std.proofs.Common.{◌≡◌, ℕ, ◌+◌, ◌*◌, ◌++◌, List, [], ◌∷◌, sym, ap, ◌∙◌, arith, append-nil}
use Rattle.std.proofs.Common.{append_assoc}
use Rattle.std.specs.List.{range_with_len}
use Rattle.hg_place.specs.declared.Place.{Place}
use Rattle.hg_worker.specs.Listing.{open_among}
use Rattle.hg_worker.proofs.Listings.{none_open, open_then, whole_segment}
use Rattle.hg_worker.proofs.listing.note_segment.Goals as goal

pub returns-then-not-holds : goal.returns-then-not-holds
returns-then-not-holds g c =
    let w = g.S.SlotWords in
    let items = c.args.places.now.items in
    sym (append-nil items)
    ∙ ap (λ (more : List Place). items ++ more)
    (sym (none_open w.number w.records c.args.heap.now.segments c.args.segment
    (sym c.holds.ensures ∙ c.if-not-holds.true)))

pub loop-number-preserved : goal.loop-number-preserved
loop-number-preserved g c =
    let w = g.S.SlotWords in
    let items = c.args.places.now.items in
    let segments = c.args.heap.now.segments in
    let first = c.args.segment * 8192 in
    let n = c.loop-number.number in
    let one : c.note_open.new.places.items
    ≡ c.loop-number.places.items
    ++ open_among w.number w.records segments ((first + n) ∷ []) =
    c.in_ok-note_open.ensures
    ∙ ap (λ (s : ℕ). c.loop-number.places.items
    ++ open_among w.number w.records segments ((s * 8192 + n) ∷ [])) c.from.ensures in
    one
    ∙ ap (λ (so : List Place). so
    ++ open_among w.number w.records segments (range_with_len (first + n) 1)) c.loop-number.invariant
    ∙ append_assoc items (open_among w.number w.records segments (range_with_len first n))
    (open_among w.number w.records segments (range_with_len (first + n) 1))
    ∙ ap (λ (more : List Place). items ++ more)
    (sym (open_then w.number w.records segments first n 1))

pub returns : goal.returns
returns g c =
    let w = g.S.SlotWords in
    c.loop-number.invariant
    ∙ ap (λ (more : List Place). c.args.places.now.items ++ more)
    (whole_segment w.number w.records c.args.heap.now.segments c.args.segment c.loop-number.number
    (omega arith))

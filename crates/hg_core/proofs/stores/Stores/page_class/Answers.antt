use Rattle.std.proofs.Common.{◌≡◌, ◌<◌, length, sym, ap, arith, ◌∙◌}
use Rattle.hg_events.specs.Core.{parts_of}
use Rattle.hg_core.specs.Keeping.{state_in}
use Rattle.hg_core.proofs.ClassesTold.{no_page, no_segment, on_page, pool_told}
use Rattle.hg_core.proofs.PlacesTold.{heap_inside, has_segment, holder_told}
use Rattle.hg_core.proofs.Recorded.{has_pooled}
use Rattle.hg_core.proofs.stores.Stores.page_class.Goals as goal

pub returns-then-segment-segments : goal.returns-then-segment-segments
returns-then-segment-segments c =
    let few : length c.self.inside.policy.segments ≡ length c.args.self.now.policy.segments =
    ap (λ x. length x.policy.segments) c.self.view_is in
    sym (no_segment (parts_of c.args.self.now) c.args.segment c.args.page
    (omega (arith, few, c.segments.ensures.segments, c.if-segment-segments.true)))

pub returns-then-from-ge-SEGMENT_PAGES : goal.returns-then-from-ge-SEGMENT_PAGES
returns-then-from-ge-SEGMENT_PAGES c =
    sym (no_page (state_in c.args.self.now) c.args.segment c.args.page
    (omega (arith, c.from.ensures, c.if-from-ge-SEGMENT_PAGES.true)))

pub index-requires : goal.index-requires
index-requires c =
    let inside = heap_inside c.self.inside c.args.self.now c.args.segment c.in-Some.holder
    c.self.view_is c.self.invariant (sym c.in-Some.ensures.value) in
    omega (arith, inside, c.from-in-Some.ensures, c.self.inside.heaps.items.ok.0)

pub page_class-requires-clause-held : goal.page_class-requires-clause-held
page_class-requires-clause-held c =
    has_segment c.self.inside c.args.self.now c.args.segment c.in-Some.holder c.self.view_is
    c.self.invariant (sym c.in-Some.ensures.value) c.from-in-Some.result c.index.result.now
    c.from-in-Some.ensures c.index.ensures

pub returns-in-Some : goal.returns-in-Some
returns-in-Some c =
    let inside : c.args.page < 16 =
    omega (arith, c.from.ensures, c.if-from-ge-SEGMENT_PAGES.false) in
    sym (on_page (state_in c.args.self.now) c.args.segment c.args.page inside
    ∙ holder_told c.self.inside c.args.self.now c.args.segment c.in-Some.holder c.self.view_is
    c.self.invariant (sym c.in-Some.ensures.value) c.from-in-Some.result c.index.result.now
    c.from-in-Some.ensures c.index.ensures (λ class. class) c.args.page c.page_class.result inside
    c.page_class.ensures)

pub page_class-requires-2-clause-there : goal.page_class-requires-2-clause-there
page_class-requires-2-clause-there c =
    let few : length c.self.inside.policy.segments ≡ length c.args.self.now.policy.segments =
    ap (λ x. length x.policy.segments) c.self.view_is in
    has_pooled c.self.inside c.args.self.now c.args.segment c.self.view_is c.self.invariant
    (omega (arith, few, c.segments.ensures.segments, c.if-segment-segments.false))
    (sym c.in_default.ensures.value)

pub returns : goal.returns
returns c =
    let few : length c.self.inside.policy.segments ≡ length c.args.self.now.policy.segments =
    ap (λ x. length x.policy.segments) c.self.view_is in
    pool_told c.self.inside c.args.self.now c.args.segment c.args.page c.page_class-2.result
    c.self.view_is c.self.invariant
    (omega (arith, few, c.segments.ensures.segments, c.if-segment-segments.false))
    (sym c.in_default.ensures.value)
    (omega (arith, c.from.ensures, c.if-from-ge-SEGMENT_PAGES.false))
    c.page_class-2.ensures

use Rattle.std.proofs.Common.{sym, arith}
use Rattle.hg_core.proofs.PlacesTold.{heap_inside, has_segment, places_told}
use Rattle.hg_core.proofs.stores.Stores.block_places.Goals as goal

pub index-requires : goal.index-requires
index-requires c =
    let inside = heap_inside c.self.inside c.args.self.now c.args.segment c.in-Some.holder
    c.self.view_is c.self.invariant (sym c.in-Some.ensures.value) in
    omega (arith, inside, c.from-2.ensures, c.self.inside.heaps.items.ok.0)

pub block_places-requires-clause-held : goal.block_places-requires-clause-held
block_places-requires-clause-held c =
    has_segment c.self.inside c.args.self.now c.args.segment c.in-Some.holder c.self.view_is
    c.self.invariant (sym c.in-Some.ensures.value) c.from-2.result c.index.result.now
    c.from-2.ensures c.index.ensures

pub returns-clause-value : goal.returns-clause-value
returns-clause-value c =
    places_told c.self.inside c.args.self.now c.args.segment c.in-Some.holder c.self.view_is
    c.self.invariant (sym c.in-Some.ensures.value) c.from-2.result c.index.result.now
    c.from-2.ensures c.index.ensures c.args.page c.block_places.result
    (omega (arith, c.from.ensures, c.if-from-ge-SEGMENT_PAGES.false))
    c.block_places.ensures.value

use Rattle.std.proofs.Common.{sym, arith}
use Rattle.hg_core.proofs.Recorded.{is_pooled, told_held, told_pooled}
use Rattle.hg_core.proofs.Words.{has_word, holder_inside}
use Rattle.hg_core.proofs.stores.Stores.standing.Goals as goal

pub index-heap-requires : goal.index-heap-requires
index-heap-requires c =
    let inside = holder_inside c.self.inside c.args.self.now c.args.place c.self.view_is
    c.self.invariant c.in-Some.holder (sym c.in-Some.ensures.value) in
    omega (arith, inside, c.from.ensures, c.self.inside.heaps.items.ok.0)

pub told-requires : goal.told-requires
told-requires c =
    has_word c.self.inside c.args.self.now c.args.place c.self.view_is c.self.invariant
    c.in-Some.holder c.from.result c.index-heap.result.now (sym c.in-Some.ensures.value)
    c.from.ensures c.index-heap.ensures

pub returns-in-Some : goal.returns-in-Some
returns-in-Some c =
    told_held c.self.inside c.args.self.now c.args.place c.self.view_is c.self.invariant c.requires
    c.in-Some.holder c.from.result c.index-heap.result.now c.told.result.0 c.told.result.1
    (sym c.in-Some.ensures.value) c.from.ensures c.index-heap.ensures c.told.ensures.record
    c.told.ensures.word

pub told-requires-2 : goal.told-requires-2
told-requires-2 c =
    is_pooled c.self.inside c.args.self.now c.args.place c.self.view_is c.self.invariant c.requires
    (sym c.in_default.ensures.value)

pub returns : goal.returns
returns c =
    told_pooled c.self.inside c.args.self.now c.args.place c.self.view_is c.self.invariant
    c.requires (sym c.in_default.ensures.value) c.told-2.result.0 c.told-2.result.1
    c.told-2.ensures

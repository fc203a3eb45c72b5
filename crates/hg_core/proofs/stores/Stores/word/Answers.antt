use Rattle.std.proofs.Common.{sym, ◌∙◌, arith}
use Rattle.std.proofs.lemmas.Bool.{true≢false}
use Rattle.hg_core.proofs.Words.{holder_inside, has_word, heap_word, pool_word, no_word}
use Rattle.hg_core.proofs.stores.Stores.word.Goals as goal

pub index-requires : goal.index-requires
index-requires c =
    let inside = holder_inside c.self.inside c.args.self.now c.args.place c.self.view_is
    c.self.invariant c.in-Some.holder (sym c.in-Some.ensures.value) in
    omega (arith, inside, c.from.ensures, c.self.inside.heaps.items.ok.0)

pub word-requires : goal.word-requires
word-requires c =
    has_word c.self.inside c.args.self.now c.args.place c.self.view_is c.self.invariant
    c.in-Some.holder c.from.result c.index.result.now (sym c.in-Some.ensures.value) c.from.ensures
    c.index.ensures

pub returns-in-Some : goal.returns-in-Some
returns-in-Some c =
    heap_word c.self.inside c.args.self.now c.args.place c.self.view_is c.self.invariant
    c.in-Some.holder c.from.result c.index.result.now (sym c.in-Some.ensures.value) c.from.ensures
    c.index.ensures c.word.result c.word.ensures

pub word-requires-then-has : goal.word-requires-then-has
word-requires-then-has c = c.has.ensures.there.0 c.if-has.true

pub returns-then-has : goal.returns-then-has
returns-then-has c =
    pool_word c.self.inside c.args.self.now c.args.place c.self.view_is c.self.invariant
    c.word-then-has.result c.word-then-has.ensures

pub returns : goal.returns
returns c =
    no_word c.self.inside c.args.self.now c.args.place c.self.view_is c.self.invariant
    (sym c.in_default.ensures.value)
    (λ there. true≢false (sym (c.has.ensures.there.1 there) ∙ c.if-has.false))

use Rattle.std.proofs.Common.{◌≡◌, ◌+◌, false, ap, sym, ◌∙◌, arith}
use borrow.Author.Count.{below_more}
use Rattle.hg_place.specs.Places.{number_of}
use Rattle.hg_core.specs.Kinds.{is_kind}
use Rattle.hg_core.proofs.KindsTold.{first_is, none_is}
use Rattle.hg_core.proofs.serving.Core.first_of.Goals as goal

pub returns-then-is_kind-clause-some : goal.returns-then-is_kind-clause-some
returns-then-is_kind-clause-some c =
    first_is c.args.self.now.state c.args.kind c.args.first c.args.many c.loop-at.at
    (number_of c.place_at-place.result) c.place_at-place.ensures.number (omega arith)
    c.loop-at.invariant (sym c.is_kind.ensures ∙ c.if-is_kind.true)

pub loop-at-preserved : goal.loop-at-preserved
loop-at-preserved c =
    below_more (λ n. is_kind c.args.self.now.state c.args.kind (c.args.first + n) ≡ false)
    c.loop-at.at c.loop-at.invariant
    (ap (is_kind c.args.self.now.state c.args.kind) (sym c.place_at-place.ensures.number)
    ∙ sym c.is_kind.ensures ∙ c.if-is_kind.false)

pub returns-clause-none : goal.returns-clause-none
returns-clause-none c =
    none_is c.args.self.now.state c.args.kind c.args.first c.args.many c.loop-at.at (omega arith)
    c.loop-at.invariant

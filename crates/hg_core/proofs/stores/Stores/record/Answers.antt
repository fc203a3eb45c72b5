use Rattle.std.proofs.Common.{◌≡◌, length, sym, ap, arith, subst, ◌∙◌}
use Rattle.hg_events.specs.Core.{parts_of}
use Rattle.hg_core.specs.Keeping.{IsKept}
use Rattle.hg_core.proofs.Recorded.{nothing_told, record_is_told}
use Rattle.hg_core.proofs.stores.Stores.record.Goals as goal

pub returns-then-place-segments : goal.returns-then-place-segments
returns-then-place-segments c =
    let few : length c.self.inside.policy.segments ≡ length c.args.self.now.policy.segments =
    ap (λ x. length x.policy.segments) c.self.view_is in
    sym (nothing_told c.args.self.now (subst IsKept c.self.view_is c.self.invariant.kept)
    c.args.place (omega (arith, few, c.segments.ensures.segments, c.if-place-segments.true)))

pub returns : goal.returns
returns c =
    let kept = subst IsKept c.self.view_is c.self.invariant.kept in
    let few : length c.self.inside.policy.segments ≡ length c.args.self.now.policy.segments =
    ap (λ x. length x.policy.segments) c.self.view_is in
    c.told_by.ensures
    ∙ record_is_told (parts_of c.args.self.now) kept.tidy.segments c.args.place
    (omega (arith, few, c.segments.ensures.segments, c.if-place-segments.false))
    c.standing-standing.result.0 c.standing-standing.result.1 c.standing-standing.ensures

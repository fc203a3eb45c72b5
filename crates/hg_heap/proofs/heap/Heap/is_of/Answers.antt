use Rattle.std.proofs.Common.{◌∙◌, sym, ap, subst, arith, true, false, IsTrue}
use Rattle.hg_heap.specs.Policies.{AreOf}
use Rattle.hg_heap.proofs.Policed.{not_one, one_more, all_are}
use Rattle.hg_heap.proofs.heap.Heap.is_of.Goals as goal

pub returns-then-not-is_given : goal.returns-then-not-is_given
returns-then-not-is_given g c =
    let number = g.S.SlotWords.number in
    let policy = c.args.policy.now in
    subst (λ xs. (IsTrue false → AreOf number policy xs) × (AreOf number policy xs → IsTrue false))
    (c.deref-segment-items.ensures.value ∙ ap (λ h. h.segments) c.self.view_is)
    (not_one number policy c.deref-segment-items.result.now c.loop-segment.segment-index
    c.segment-item.result (omega arith) c.segment-item.is
    (λ of. sym c.if-not-is_given.true ∙ c.is_given.ensures.1 of))

pub loop-segment-preserved : goal.loop-segment-preserved
loop-segment-preserved g c =
    one_more g.S.SlotWords.number c.args.policy.now c.deref-segment-items.result.now
    c.loop-segment.segment-index c.segment-item.result (omega arith) c.segment-item.is
    c.loop-segment.invariant (c.is_given.ensures.0 c.if-not-is_given.false)

pub returns : goal.returns
returns g c =
    let number = g.S.SlotWords.number in
    let policy = c.args.policy.now in
    subst (λ xs. (IsTrue true → AreOf number policy xs) × (AreOf number policy xs → IsTrue true))
    (c.deref-segment-items.ensures.value ∙ ap (λ h. h.segments) c.self.view_is)
    (all_are number policy c.deref-segment-items.result.now c.loop-segment.segment-index
    (omega arith) c.loop-segment.invariant)

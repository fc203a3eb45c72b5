use Rattle.std.proofs.Common.{◌≡◌, ◌+◌, ℕ, sym, subst, ◌∙◌, arith}
use Rattle.hg_heap.specs.Held.{Held}
use Rattle.hg_heap.proofs.CollectLoop.{AreCollected, none_collected, one_busy, one_idle}
use Rattle.hg_heap.proofs.CollectLoop.{count_after, collected, idle_out, kinds_after}
use Rattle.hg_heap.proofs.CollectCall.{collect_ties}
use Rattle.hg_heap.proofs.heap.Heap.collect.Goals as goal
use Rattle.hg_heap.proofs.heap.Heap.collect.Goals.{then-retire, else-retire}

pub loop-page-init : goal.loop-page-init
loop-page-init g c =
    none_collected g.S.SlotWords.number g.S.SlotWords.records c.args.self.now

pub loop-page-preserved : goal.loop-page-preserved
loop-page-preserved g c =
    let w = g.S.SlotWords in
    let page = c.loop-page.page in
    let old = c.args.self.now in
    let mid = c.loop-page.self in
    elim c.if-retire.branch as (λ _. AreCollected w.number w.records (page + 1) c.if-retire.count
    old c.retire.new.self) [
      | then-retire b ↦ subst (λ (n : ℕ). AreCollected w.number w.records (page + 1) n old
          c.retire.new.self) (sym b.count-is)
          (one_idle w.number w.records page c.loop-page.count old mid c.loop-page.invariant
          c.retire.new.self (sym c.retire.ensures.idle ∙ b.if-retire.true)
          (c.retire.ensures.retired b.if-retire.true))
      | else-retire b ↦ subst (λ (n : ℕ). AreCollected w.number w.records (page + 1) n old
          c.retire.new.self) (sym b.count-is)
          (subst (λ (h : Held g.row.S.Denot). AreCollected w.number w.records (page + 1)
          c.loop-page.count old h) (sym (c.retire.ensures.same b.if-retire.false))
          (one_busy w.number w.records page c.loop-page.count old mid c.loop-page.invariant
          (sym c.retire.ensures.idle ∙ b.if-retire.false)))
    ]

pub returns-clause-pages : goal.returns-clause-pages
returns-clause-pages g c =
    let w = g.S.SlotWords in
    let whole : c.loop-page.page ≡ 1024 =
    omega (arith, c.loop-page-test.false, c.loop-page.auto.page-end) in
    count_after w.number w.records g.met.S.SlotWords.numbered c.loop-page.page c.loop-page.count
    c.args.self.now c.loop-page.self c.loop-page.invariant whole

pub returns-clause-ties : goal.returns-clause-ties
returns-clause-ties g c =
    let w = g.S.SlotWords in
    let m = g.met.S.SlotWords in
    let whole : c.loop-page.page ≡ 1024 =
    omega (arith, c.loop-page-test.false, c.loop-page.auto.page-end) in
    λ policy shown of. collect_ties w.number w.records m.numbered policy c.args.self.now
    c.loop-page.self of
    (collected w.number w.records m.numbered c.loop-page.page c.loop-page.count c.args.self.now
    c.loop-page.self c.loop-page.invariant whole) c.loop-page.count
    (count_after w.number w.records m.numbered c.loop-page.page c.loop-page.count c.args.self.now
    c.loop-page.self c.loop-page.invariant whole) shown

pub returns-clause-collected : goal.returns-clause-collected
returns-clause-collected g c =
    let w = g.S.SlotWords in
    let whole : c.loop-page.page ≡ 1024 =
    omega (arith, c.loop-page-test.false, c.loop-page.auto.page-end) in
    collected w.number w.records g.met.S.SlotWords.numbered c.loop-page.page c.loop-page.count
    c.args.self.now c.loop-page.self c.loop-page.invariant whole

pub returns-clause-out : goal.returns-clause-out
returns-clause-out g c =
    let w = g.S.SlotWords in
    let whole : c.loop-page.page ≡ 1024 =
    omega (arith, c.loop-page-test.false, c.loop-page.auto.page-end) in
    idle_out w.number w.records g.met.S.SlotWords.numbered c.loop-page.page c.loop-page.count
    c.args.self.now c.loop-page.self c.loop-page.invariant whole

pub returns-clause-kinds : goal.returns-clause-kinds
returns-clause-kinds g c =
    let w = g.S.SlotWords in
    let whole : c.loop-page.page ≡ 1024 =
    omega (arith, c.loop-page-test.false, c.loop-page.auto.page-end) in
    kinds_after w.number w.records g.met.S.SlotWords.numbered c.loop-page.page c.loop-page.count
    c.args.self.now c.loop-page.self c.loop-page.invariant whole

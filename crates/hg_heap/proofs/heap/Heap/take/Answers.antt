use Rattle.std.proofs.Common.{refl, sym, ◌∙◌, arith}
use Rattle.std.proofs.lemmas.Bool.{true≢false}
use Rattle.hg_remote.specs.Order.{drained}
use Rattle.hg_remote.specs.Remote.{contents}
use Rattle.hg_remote.proofs.OrderLemmas.{empty_sent, order_all}
use Rattle.hg_heap.proofs.Homecoming.{home_again}
use Rattle.hg_heap.proofs.TakeLoop.{Comes, none_taken, shorter, room, one_taken, one_passed}
use Rattle.hg_heap.proofs.TakeLoop.{all_taken}
use Rattle.hg_heap.proofs.heap.Heap.take.Goals as goal
use Rattle.hg_heap.proofs.heap.Heap.take.Goals.{In-Some}
use Rattle.hg_heap.proofs.heap.Heap.take.Given.{Over}

pub loop-page-init : goal.loop-page-init
loop-page-init g c =
    let w = g.S.SlotWords in
    record {
      taken =
          none_taken w.number w.records w.shows w.steps c.args.segment c.args.remote.now
          c.args.self.now (sym c.holds.ensures ∙ c.if-not-holds.false)
          c.is_empty-is_empty.ensures.right;
      quiet = c.requires.quiet;
    }

pub take_one-requires-clause-quiet : goal.take_one-requires-clause-quiet
take_one-requires-clause-quiet g c = c.loop-page.invariant.quiet

pub take_one-requires-clause-held : goal.take_one-requires-clause-held
take_one-requires-clause-held g c = c.loop-page.invariant.taken.held

-- a place came off the remote list
comes : (g : Over) (c : In-Some g) → Comes c.in-Some.page c.in-Some.index c.loop-page.remote
    c.drain_one.new.self
comes g c = let d = c.in-Some.ensures in
    record {
      low = d.page;
      small = d.index;
      drains = d.drained;
      removed = d.removed;
      right = d.right;
    }

pub overflow_add-count : goal.overflow_add-count
overflow_add-count g c =
    let w = g.S.SlotWords in
    let less = room w.number w.records w.shows w.steps c.loop-page.invariant.taken
    (comes g (goal.at.overflow_add-count g c).In-Some) in
    omega (arith, less)

pub loop-page-smaller-then-take_one : goal.loop-page-smaller-then-take_one
loop-page-smaller-then-take_one g c =
    let w = g.S.SlotWords in
    shorter w.number w.records w.shows w.steps c.loop-page.invariant.taken
    (comes g (goal.at.loop-page-smaller-then-take_one g c).In-Some)

pub loop-page-preserved-then-take_one : goal.loop-page-preserved-then-take_one
loop-page-preserved-then-take_one g c =
    let w = g.S.SlotWords in
    record {
      taken =
          one_taken w.number w.records w.shows w.steps c.loop-page.invariant.taken
          (comes g (goal.at.loop-page-preserved-then-take_one g c).In-Some)
          (c.take_one.ensures.taken c.if-take_one.true);
      quiet = c.take_one.ensures.quiet;
    }

pub loop-page-smaller : goal.loop-page-smaller
loop-page-smaller g c =
    let w = g.S.SlotWords in
    shorter w.number w.records w.shows w.steps c.loop-page.invariant.taken
    (comes g (goal.at.loop-page-smaller g c).In-Some)

pub loop-page-preserved : goal.loop-page-preserved
loop-page-preserved g c =
    let w = g.S.SlotWords in
    record {
      taken =
          one_passed w.number w.records w.shows w.steps c.loop-page.invariant.taken
          (comes g (goal.at.loop-page-preserved g c).In-Some)
          (c.take_one.ensures.passed c.if-take_one.false);
      quiet = c.take_one.ensures.quiet;
    }

pub returns-clause-empty : goal.returns-clause-empty
returns-clause-empty g c = λ held.
    c.in_default.ensures.unchanged
    ∙ empty_sent c.loop-page.remote c.loop-page.invariant.taken.right (c.in_default.ensures.none.0 refl)

pub returns-clause-taken : goal.returns-clause-taken
returns-clause-taken g c =
    let w = g.S.SlotWords in
    λ held. all_taken w.number w.records w.shows w.steps c.loop-page.invariant.taken
    (c.in_default.ensures.none.0 refl)

pub returns-clause-few : goal.returns-clause-few
returns-clause-few g c = let few = c.loop-page.invariant.taken.few in omega (arith, few)

pub returns-then-not-holds-clause-empty : goal.returns-then-not-holds-clause-empty
returns-then-not-holds-clause-empty g c = λ held.
    absurd (true≢false (sym held ∙ (sym c.holds.ensures ∙ c.if-not-holds.true)))

pub returns-then-not-holds-clause-taken : goal.returns-then-not-holds-clause-taken
returns-then-not-holds-clause-taken g c = λ held.
    absurd (true≢false (sym held ∙ (sym c.holds.ensures ∙ c.if-not-holds.true)))

pub returns-then-not-holds-clause-whole : goal.returns-then-not-holds-clause-whole
returns-then-not-holds-clause-whole g c = λ held.
    absurd (true≢false (sym held ∙ (sym c.holds.ensures ∙ c.if-not-holds.true)))

pub returns-clause-unheld : goal.returns-clause-unheld
returns-clause-unheld g c = λ unheld.
    absurd (true≢false (sym (sym c.holds.ensures ∙ c.if-not-holds.false) ∙ unheld))

pub returns-clause-whole : goal.returns-clause-whole
returns-clause-whole g c = let w = g.S.SlotWords in
    λ held. home_again w.number w.records w.shows w.steps c.args.segment c.loop-page.count
    (drained c.args.remote.now) (contents c.args.remote.now) c.args.self.now c.loop-page.self
    c.settled.ensures.once held
    (λ place. ((order_all c.args.remote.now c.is_empty-is_empty.ensures.right).same place).0)
    (all_taken w.number w.records w.shows w.steps c.loop-page.invariant.taken
    (c.in_default.ensures.none.0 refl))

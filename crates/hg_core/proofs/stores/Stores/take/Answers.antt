use Rattle.std.proofs.Common.{sym, arith, ◌∙◌}
use Rattle.std.specs.Box.{boxed_slice_with_item}
use Rattle.hg_core.proofs.After.{IsAfter}
use Rattle.hg_core.proofs.TakenIn.{nothing_taken, has_remote, after_take}
use Rattle.hg_machine.specs.declared.Event.TheVariants as event
use Rattle.hg_machine.specs.declared.Answer.TheVariants as answer
use Rattle.hg_core.proofs.stores.Stores.take.Goals as goal

refused : (c : goal.After-self-1) → IsAfter c.args.self.now
    (record c.self.inside {
      heaps = boxed_slice_with_item c.self.inside.heaps c.from.result c.index_mut-heap.result.now;
    })
    c.args.worker (event.Take c.args.segment) answer.NotHeld
refused c =
    nothing_taken c.self.inside c.args.self.now c.from.result c.args.worker c.args.segment
    c.index_mut-heap.result.now c.self.view_is c.self.invariant c.requires c.from.ensures
    c.index_mut-heap.ensures.value (sym c.holds.ensures ∙ c.if-not-holds.true)

pub invariant_of-self : goal.invariant_of-self
invariant_of-self c = (refused c).stored

pub returns-then-not-holds : goal.returns-then-not-holds
returns-then-not-holds c =
    record { step = (refused c).step; chosen = (refused c).chosen; kept = (refused c).stored.kept }

pub index_mut-requires : goal.index_mut-requires
index_mut-requires c =
    let there = has_remote c.self.inside c.args.self.now c.from.result c.args.worker c.args.segment
    c.index_mut-heap.result.now c.self.view_is c.self.invariant c.requires c.from.ensures
    c.index_mut-heap.ensures.value (sym c.holds.ensures ∙ c.if-not-holds.false) in
    omega (arith, there, c.from-2.ensures, c.self.inside.remotes.items.ok.0)

after : (c : goal.After-self-3-1) → IsAfter c.args.self.now
    (record c.self.inside {
      heaps = boxed_slice_with_item c.self.inside.heaps c.from.result c.take-count.new.self;
      remotes = boxed_slice_with_item c.self.inside.remotes c.from-2.result
          c.take-count.new.remote;
    })
    c.args.worker (event.Take c.args.segment) (answer.Taken c.take-count.result)
after c =
    let held = sym c.holds.ensures ∙ c.if-not-holds.false in
    after_take c.self.inside c.args.self.now c.from.result c.args.worker c.args.segment
    c.index_mut-heap.result.now c.self.view_is c.self.invariant c.requires c.from.ensures
    c.index_mut-heap.ensures.value held c.from-2.result c.take-count.result
    c.take-count.new.self c.index_mut.result.now c.take-count.new.remote
    c.from-2.ensures c.index_mut.ensures.value
    (c.take-count.ensures.empty held) (c.take-count.ensures.taken held) c.settled.ensures.each

pub invariant_of-self-2 : goal.invariant_of-self-2
invariant_of-self-2 c = (after c).stored

pub returns : goal.returns
returns c =
    record { step = (after c).step; chosen = (after c).chosen; kept = (after c).stored.kept }

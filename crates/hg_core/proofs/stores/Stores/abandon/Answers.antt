use Rattle.std.proofs.Common.{None, sym, slice_set}
use Rattle.std.specs.Box.{boxed_slice_with_item}
use Rattle.hg_core.proofs.After.{IsAfter}
use Rattle.hg_core.proofs.Abandoned.{nothing_abandoned, unpooled, after_abandon}
use Rattle.hg_machine.specs.declared.Event.TheVariants as event
use Rattle.hg_machine.specs.declared.Answer.TheVariants as answer
use Rattle.hg_core.proofs.stores.Stores.abandon.Goals as goal

refused : (c : goal.In_default) → IsAfter c.args.self.now
    (record c.self.inside {
      heaps = boxed_slice_with_item c.self.inside.heaps c.from.result c.release.new.self;
    })
    c.args.worker (event.Abandon c.args.segment) answer.NotHeld
refused c =
    nothing_abandoned c.self.inside c.args.self.now c.from.result c.args.worker c.args.segment
    c.index_mut.result.now c.self.view_is c.self.invariant c.requires c.from.ensures
    c.index_mut.ensures.value c.release.new.self c.in_default.ensures.unchanged
    (sym c.in_default.ensures.released)

pub invariant_of-self : goal.invariant_of-self
invariant_of-self c = (refused c).stored

pub returns-in_default : goal.returns-in_default
returns-in_default c =
    record { step = (refused c).step; chosen = (refused c).chosen; kept = (refused c).stored.kept }

pub put_orphan-requires : goal.put_orphan-requires
put_orphan-requires c =
    unpooled c.self.inside c.args.self.now c.from.result c.args.worker c.args.segment
    c.index_mut.result.now c.self.view_is c.self.invariant c.requires c.from.ensures
    c.index_mut.ensures.value c.in-Some.one (sym c.in-Some.ensures.released)

after : (c : goal.After-way_told-1) → IsAfter c.args.self.now
    (record c.self.inside {
      heaps = boxed_slice_with_item c.self.inside.heaps c.from.result c.release.new.self;
      pool = c.put_orphan.new.self;
      holders = slice_set c.self.inside.holders c.from-2.result None;
    })
    c.args.worker (event.Abandon c.args.segment) answer.Done
after c =
    after_abandon c.self.inside c.args.self.now c.from.result c.args.worker c.args.segment
    c.index_mut.result.now c.self.view_is c.self.invariant c.requires c.from.ensures
    c.index_mut.ensures.value c.in-Some.one (sym c.in-Some.ensures.released) c.from-2.result
    c.release.new.self c.put_orphan.new.self c.from-2.ensures c.release.ensures.segments
    c.release.ensures.queues c.put_orphan.ensures.orphans c.put_orphan.ensures.fresh

pub invariant_of-self-2 : goal.invariant_of-self-2
invariant_of-self-2 c = (after c).stored

pub returns : goal.returns
returns c =
    record { step = (after c).step; chosen = (after c).chosen; kept = (after c).stored.kept }

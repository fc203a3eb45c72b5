use Rattle.std.proofs.Common.{Some, sym, slice_set, ◌∙◌}
use Rattle.std.specs.Box.{boxed_slice_with_item}
use Rattle.hg_segment.specs.Parted.{plain_number}
use Rattle.hg_core.proofs.After.{IsAfter}
use Rattle.hg_core.proofs.Refilled.{nothing_refilled, adoptable, after_refill}
use Rattle.hg_machine.specs.declared.Event.TheVariants as event
use Rattle.hg_machine.specs.declared.Answer.TheVariants as answer
use Rattle.hg_core.proofs.stores.Stores.refill.Goals as goal

refused : (c : goal.In_default) → IsAfter c.args.self.now
    (record c.self.inside { pool = c.next_of.new.self })
    c.args.worker (event.Refill c.args.arena) answer.NoSegment
refused c =
    nothing_refilled c.self.inside c.args.self.now c.args.worker c.args.arena c.next_of.new.self
    c.self.view_is c.self.invariant c.in_default.ensures.unchanged (sym c.in_default.ensures.next)

pub invariant_of-self : goal.invariant_of-self
invariant_of-self c = (refused c).stored

pub returns-in_default : goal.returns-in_default
returns-in_default c =
    record { step = (refused c).step; chosen = (refused c).chosen; kept = (refused c).stored.kept }

pub adopt-requires-clause-new : goal.adopt-requires-clause-new
adopt-requires-clause-new c =
    (adoptable c.self.inside c.args.self.now c.from.result c.args.worker c.args.arena
    c.index_mut-heap.result.now c.in-Some.one c.self.view_is c.self.invariant c.requires
    c.from.ensures c.index_mut-heap.ensures.value (sym c.in-Some.ensures.next)).0

pub adopt-requires-clause-arena : goal.adopt-requires-clause-arena
adopt-requires-clause-arena c =
    (adoptable c.self.inside c.args.self.now c.from.result c.args.worker c.args.arena
    c.index_mut-heap.result.now c.in-Some.one c.self.view_is c.self.invariant c.requires
    c.from.ensures c.index_mut-heap.ensures.value (sym c.in-Some.ensures.next)).1

after : (c : goal.After-way_told-1) → IsAfter c.args.self.now
    (record c.self.inside {
      heaps = boxed_slice_with_item c.self.inside.heaps c.from.result c.adopt.new.self;
      pool = c.next_of.new.self;
      holders = slice_set c.self.inside.holders c.from-2.result (Some c.args.worker);
    })
    c.args.worker (event.Refill c.args.arena) (answer.Refilled (plain_number c.in-Some.one.slots))
after c =
    after_refill c.self.inside c.args.self.now c.from.result c.args.worker c.args.arena
    c.index_mut-heap.result.now c.in-Some.one c.self.view_is c.self.invariant c.requires
    c.from.ensures c.index_mut-heap.ensures.value (sym c.in-Some.ensures.next) c.from-2.result
    c.adopt.new.self c.next_of.new.self (c.from-2.ensures ∙ c.number-segment.ensures)
    c.in-Some.ensures.left c.adopt.ensures.segments c.settled-2.ensures.once
    (record {
      queues = c.adopt.ensures.queues;
      before = c.settled.ensures.queued.queues;
      after = c.settled-2.ensures.queued.queues;
    })

pub invariant_of-self-2 : goal.invariant_of-self-2
invariant_of-self-2 c = (after c).stored

pub returns : goal.returns
returns c =
    record { step = rw c.number-segment.ensures (after c).step; chosen = rw c.number-segment.ensures (after c).chosen; kept = (after c).stored.kept }

use Rattle.std.proofs.Common.{sym, ◌∙◌}
use Rattle.std.specs.Box.{boxed_slice_with_item}
use Rattle.hg_heap.specs.Answers.{refused_answer, done_answer}
use Rattle.hg_core.proofs.After.{IsAfter}
use Rattle.hg_core.proofs.Away.{write_away, refused_by_heap}
use Rattle.hg_core.proofs.HeapCall.{here, heap_call}
use Rattle.hg_core.proofs.OwnCalls.{after_write}
use Rattle.hg_machine.specs.declared.Event.TheVariants as event
use Rattle.hg_core.proofs.stores.Stores.write.Goals as goal

pub returns-then-not-holds-clause-step : goal.returns-then-not-holds-clause-step
returns-then-not-holds-clause-step c =
    write_away c.args.self.now c.args.worker c.holds.ensures.kept c.requires c.args.actor
    c.args.handle c.args.index c.args.value (refused_answer c.out_of_reach.result)
    (sym c.holds.ensures.value ∙ c.if-not-holds.true) c.out_of_reach.ensures

pub returns-then-not-holds-clause-chosen : goal.returns-then-not-holds-clause-chosen
returns-then-not-holds-clause-chosen c =
    refused_by_heap c.args.self.now c.args.worker
    (event.Write c.args.actor c.args.handle c.args.index c.args.value) c.out_of_reach.result
    (returns-then-not-holds-clause-step c)

after : (c : goal.After-self-1) → IsAfter c.args.self.now
    (record c.self.inside {
      heaps = boxed_slice_with_item c.self.inside.heaps c.from.result c.write-written.new.self;
    })
    c.args.worker (event.Write c.args.actor c.args.handle c.args.index c.args.value)
    (done_answer c.write-written.result)
after c =
    let held = c.write-written.ensures.held
    (here c.self.invariant c.self.view_is c.requires c.from.ensures c.index_mut-heap.ensures.value
    c.args.handle.place.segment (sym c.holds.ensures.value ∙ c.if-not-holds.false)) in
    after_write (heap_call c.self.invariant c.self.view_is c.requires c.from.ensures
    c.index_mut-heap.ensures.value c.write-written.new.self c.settled.ensures.each) c.args.actor
    c.args.handle c.args.index c.args.value held.0 c.write-written.result (held.1, held.2)
    (record { lists = c.write-written.ensures.lists; queues = c.write-written.ensures.queues })

pub invariant_of-self : goal.invariant_of-self
invariant_of-self c = (after c).stored

pub returns : goal.returns
returns c =
    record { step = (after c).step; chosen = (after c).chosen; kept = (after c).stored.kept }

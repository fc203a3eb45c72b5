use Rattle.std.specs.Box.{boxed_slice_with_item}
use Rattle.hg_heap.specs.Answers.{done_answer}
use Rattle.hg_core.proofs.After.{IsAfter}
use Rattle.hg_core.proofs.HeapCall.{here, heap_call}
use Rattle.hg_core.proofs.OwnCalls.{denied_by, after_free_here, is_freed, is_same}
use Rattle.hg_machine.specs.declared.Event.TheVariants as event
use Rattle.hg_core.proofs.stores.Stores.free_here.Goals as goal

pub freed_here-requires : goal.freed_here-requires
freed_here-requires c =
    denied_by (heap_call c.self.invariant c.self.view_is c.requires.worker c.from.ensures
    c.index_mut-heap.ensures.value c.free_here-freed.new.self c.settled.ensures.each) c.args.actor
    c.args.handle c.free_here-freed.result (c.free_here-freed.ensures.denied (here c.self.invariant
    c.self.view_is c.requires.worker c.from.ensures c.index_mut-heap.ensures.value
    c.args.handle.place.segment c.requires.here))

after : (c : goal.After-freed_here) → IsAfter c.args.self.now
    (record c.self.inside {
      heaps = boxed_slice_with_item c.self.inside.heaps c.from.result c.free_here-freed.new.self;
    })
    c.args.worker (event.Free c.args.actor c.args.handle) (done_answer c.free_here-freed.result)
after c =
    after_free_here (heap_call c.self.invariant c.self.view_is c.requires.worker c.from.ensures
    c.index_mut-heap.ensures.value c.free_here-freed.new.self c.settled.ensures.each) c.args.actor
    c.args.handle c.free_here-freed.result c.free_here-freed.ensures.freed
    (c.free_here-freed.ensures.denied (here c.self.invariant c.self.view_is c.requires.worker
    c.from.ensures c.index_mut-heap.ensures.value c.args.handle.place.segment c.requires.here))
    (is_freed c.index_mut-heap.result.now c.free_here-freed.new.self c.args.handle
    c.free_here-freed.result c.free_here-freed.ensures.lists c.free_here-freed.ensures.queues)
    (is_same c.index_mut-heap.result.now c.free_here-freed.new.self c.free_here-freed.result
    c.free_here-freed.ensures.same_lists c.free_here-freed.ensures.same_queues)

pub invariant_of-self : goal.invariant_of-self
invariant_of-self c = (after c).stored

pub returns : goal.returns
returns c =
    record { step = rw c.freed_here.ensures ((after c).step); chosen = rw c.freed_here.ensures ((after c).chosen); kept = (after c).stored.kept }

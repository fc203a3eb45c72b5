use Rattle.std.specs.Box.{boxed_slice_with_item}
use Rattle.hg_machine.specs.Request.{size_of}
use Rattle.hg_chosen.specs.Given.{IsGiven as IsInOrder}
use Rattle.hg_heap.specs.Answers.{alloc_answer}
use Rattle.hg_core.proofs.After.{IsAfter}
use Rattle.hg_core.proofs.HeapCall.{of_policy, heap_call}
use Rattle.hg_core.proofs.AllocCalls.{after_alloc, if_ok}
use Rattle.hg_machine.specs.declared.Event.TheVariants as event
use Rattle.hg_core.proofs.stores.Stores.alloc.Goals as goal

pub alloc-given-requires-clause-policy : goal.alloc-given-requires-clause-policy
alloc-given-requires-clause-policy c =
    of_policy c.self.invariant c.self.view_is c.requires c.from.ensures
    c.index_mut-heap.ensures.value

after : (c : goal.After-self-1) → IsAfter c.args.self.now
    (record c.self.inside {
      heaps = boxed_slice_with_item c.self.inside.heaps c.from.result c.alloc-given.new.self;
    })
    c.args.worker (event.Alloc c.args.actor c.args.arena c.args.bytes)
    (alloc_answer c.alloc-given.result)
after c =
    after_alloc (heap_call c.self.invariant c.self.view_is c.requires c.from.ensures
    c.index_mut-heap.ensures.value c.alloc-given.new.self c.settled-2.ensures.each) c.args.actor
    c.args.arena c.args.bytes c.alloc-given.result c.alloc-given.ensures.given
    c.alloc-given.ensures.refused
    (record { each = c.settled.ensures.each; queued = c.settled.ensures.queued })
    (if_ok c.alloc-given.result _ _ _
    (IsInOrder c.index_mut-heap.result.now c.alloc-given.new.self c.args.arena
    (size_of c.args.bytes))
    (λ handle chosen lists queues. record { chosen = chosen; lists = lists; queues = queues })
    c.alloc-given.ensures.chosen c.alloc-given.ensures.lists c.alloc-given.ensures.queues)

pub invariant_of-self : goal.invariant_of-self
invariant_of-self c = (after c).stored

pub returns : goal.returns
returns c =
    record { step = (after c).step; chosen = (after c).chosen; kept = (after c).stored.kept }

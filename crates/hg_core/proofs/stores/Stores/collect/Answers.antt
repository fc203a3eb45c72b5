use Rattle.hg_machine.specs.declared.Event.TheVariants as event
use Rattle.hg_machine.specs.declared.Answer.TheVariants as answer
use Rattle.std.specs.Box.{boxed_slice_with_item}
use Rattle.hg_core.proofs.After.{IsAfter}
use Rattle.hg_core.proofs.Collected.{after_collect}
use Rattle.hg_core.proofs.stores.Stores.collect.Goals as goal

after : (c : goal.After-self-1) → IsAfter c.args.self.now
    (record c.self.inside {
      heaps = boxed_slice_with_item c.self.inside.heaps c.from.result c.collect-count.new.self;
    })
    c.args.worker event.Collect (answer.Pages c.collect-count.result)
after c =
    after_collect c.self.inside c.args.self.now c.from.result c.args.worker c.collect-count.result
    c.index_mut-heap.result.now c.collect-count.new.self c.self.view_is c.self.invariant
    c.requires c.from.ensures c.index_mut-heap.ensures.value c.collect-count.ensures.pages
    c.collect-count.ensures.collected c.collect-count.ensures.out c.settled.ensures.each

pub invariant_of-self : goal.invariant_of-self
invariant_of-self c = (after c).stored

pub returns : goal.returns
returns c =
    record { step = (after c).step; chosen = (after c).chosen; kept = (after c).stored.kept }

use Rattle.heapguard_core.specs.Answers.{done_answer}
use Rattle.heapguard_core.specs.Banks.{alloc, named}
use Rattle.heapguard_core.specs.declared.Answer.TheVariants as answer
use Rattle.heapguard_core.specs.declared.Event.TheVariants as event
use Rattle.hg_host.proofs.Serving.{bank_served_after}
use Rattle.hg_host.proofs.shelf.Shelf.keep.Goals as goal

pub invariant_of-self-2 : goal.invariant_of-self-2
invariant_of-self-2 c =
    let shelf = c.args.self.now in
    let block = c.in_ok-block.block in
    let served =
    bank_served_after c.steps_keep_policy.ensures shelf.bank shelf.worker
    (alloc c.args.actor 0 c.args.bytes) (answer.Block block.handle) c.alloc.new.self
    c.in_ok-block.ensures.step shelf.served in
    record {
      served = bank_served_after c.steps_keep_policy.ensures c.alloc.new.self shelf.worker
          (named block.core (event.Write c.args.actor block.handle 0 c.args.number))
          (done_answer c.write.result) c.write.new.self c.write.ensures.step served;
    }

pub write-requires : goal.write-requires
write-requires c =
    let shelf = c.args.self.now in
    let block = c.in_ok-block.block in
    record {
      worker = bank_served_after c.steps_keep_policy.ensures shelf.bank shelf.worker
          (alloc c.args.actor 0 c.args.bytes) (answer.Block block.handle) c.alloc.new.self
          c.in_ok-block.ensures.step shelf.served;
    }

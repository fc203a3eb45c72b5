use Rattle.heapguard_core.specs.Answers.{read_answer}
use Rattle.heapguard_core.specs.Banks.{named}
use Rattle.heapguard_core.specs.declared.Event.TheVariants as event
use Rattle.hg_host.proofs.Serving.{bank_served_after}
use Rattle.hg_host.proofs.shelf.Shelf.tell.Goals as goal

pub invariant_of-self : goal.invariant_of-self
invariant_of-self c =
    let shelf = c.args.self.now in
    record {
      served = bank_served_after c.steps_keep_policy.ensures shelf.bank shelf.worker
          (named c.args.block.core (event.Read c.args.actor c.args.block.handle 0))
          (read_answer c.read.result) c.read.new.self c.read.ensures.step shelf.served;
    }

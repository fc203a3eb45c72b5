use Rattle.heapguard_core.specs.Answers.{read_answer}
use Rattle.heapguard_core.specs.declared.Event.TheVariants as event
use Rattle.hg_host.proofs.Serving.{served_after}
use Rattle.hg_host.proofs.desk.Desk.tell.Goals as goal

pub invariant_of-self : goal.invariant_of-self
invariant_of-self c =
    let desk = c.args.self.now in
    record {
      served = served_after c.steps_keep_policy.ensures desk.core.state desk.worker
          (event.Read c.args.actor c.args.block 0) (read_answer c.read.result)
          c.read.new.self.state c.read.ensures.step desk.served;
    }

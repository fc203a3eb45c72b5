use Rattle.heapguard_core.specs.Answers.{done_answer}
use Rattle.heapguard_core.specs.declared.Answer.TheVariants as answer
use Rattle.heapguard_core.specs.declared.Event.TheVariants as event
use Rattle.hg_host.proofs.Serving.{served_after}
use Rattle.hg_host.proofs.desk.Desk.keep.Goals as goal

pub invariant_of-self-2 : goal.invariant_of-self-2
invariant_of-self-2 c =
    let desk = c.args.self.now in
    let block = c.in_ok-block.block in
    let served =
    served_after c.steps_keep_policy.ensures desk.core.state desk.worker
    (event.Alloc c.args.actor 0 8) (answer.Block block) c.alloc.new.self.state
    c.in_ok-block.ensures.step desk.served in
    record {
      served = served_after c.steps_keep_policy.ensures c.alloc.new.self.state desk.worker
          (event.Write c.args.actor block 0 c.args.number) (done_answer c.write.result)
          c.write.new.self.state c.write.ensures.step served;
    }

pub write-requires : goal.write-requires
write-requires c =
    let desk = c.args.self.now in
    record {
      worker = served_after c.steps_keep_policy.ensures desk.core.state desk.worker
          (event.Alloc c.args.actor 0 8) (answer.Block c.in_ok-block.block) c.alloc.new.self.state
          c.in_ok-block.ensures.step desk.served;
    }

use Rattle.hg_machine.specs.declared.Event.TheVariants as event
use Rattle.hg_heap.specs.Answers.{done_answer}
use Rattle.hg_bank.specs.Requests.{named}
use Rattle.hg_bytes.proofs.BankLemmas.{has_after}
use Rattle.hg_bytes.proofs.of_bank.BankWordStore.write.Goals as goal

pub returns-clause-still : goal.returns-clause-still
returns-clause-still c =
    let by = c.args.by.now in
    has_after c.args.self.now c.write.new.self by.worker
    (named by.block.core (event.Write by.actor by.block.handle c.args.index c.args.value))
    (done_answer c.write.result) c.write.ensures.step c.requires

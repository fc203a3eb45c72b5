use Rattle.std.proofs.Common.{refl, arith}
use Rattle.std.specs.Vec.{with_item}
use Rattle.hg_heap.specs.Answers.{done_answer}
use Rattle.hg_machine.specs.declared.Event.TheVariants as Event
use Rattle.hg_bank.proofs.CallLemmas.{IsAfter, found, calm_call}
use Rattle.hg_bank.proofs.bank.Bank.write.Goals as goal

after : (c : goal.After-self-1) → IsAfter c.args.self.now c.args.worker c.args.block.core
    (Event.Write c.args.actor c.args.block.handle c.args.index c.args.value)
    (done_answer c.write.result)
    (record c.self.inside {
      cores = with_item c.self.inside.cores c.from-2.result c.write.new.self;
    })
after c =
    calm_call
    (found c.self.invariant c.self.view_is c.index_mut-core.ensures.value
    (omega (arith, c.self.inside.cores.ok.0)) c.requires.worker)
    (record { step = c.write.ensures.chosen; kept = c.write.ensures.kept })
    c.args.block.core refl refl c.from-2.ensures

pub invariant_of-self : goal.invariant_of-self
invariant_of-self c = (after c).kept

pub returns-clause-step : goal.returns-clause-step
returns-clause-step c = (after c).step

pub returns-clause-kept : goal.returns-clause-kept
returns-clause-kept c = (after c).kept.sound

use Rattle.std.proofs.Common.{refl, arith}
use Rattle.std.specs.Vec.{with_item}
use Rattle.hg_core.specs.Answers.{take_answer}
use Rattle.hg_machine.specs.declared.Event.TheVariants as Event
use Rattle.hg_bank.proofs.CallLemmas.{IsAfter, found, inside_worker, covered, room_for}
use Rattle.hg_bank.proofs.CallLemmas.{counted_call}
use Rattle.hg_bank.proofs.bank.Bank.take.Goals as goal

pub index_mut-row-requires : goal.index_mut-row-requires
index_mut-row-requires c =
    let f = found c.self.invariant c.self.view_is c.index_mut-core.ensures.value
    (omega (arith, c.self.inside.cores.ok.0)) c.requires.worker in
    let inside = inside_worker f in
    omega (arith, c.self.invariant.sums.workers, c.self.inside.sums.ok.0)

pub withdraw-requires-clause-covered : goal.withdraw-requires-clause-covered
withdraw-requires-clause-covered c tenant less =
    let f = found c.self.invariant c.self.view_is c.index_mut-core.ensures.value
    (omega (arith, c.self.inside.cores.ok.0)) c.requires.worker in
    covered f c.from-3.ensures c.index_mut-row.ensures.value tenant (omega arith)

pub deposit-requires-clause-room : goal.deposit-requires-clause-room
deposit-requires-clause-room c tenant less =
    let f = found c.self.invariant c.self.view_is c.index_mut-core.ensures.value
    (omega (arith, c.self.inside.cores.ok.0)) c.requires.worker in
    room_for f c.from-3.ensures c.index_mut-row.ensures.value c.withdraw.new.row
    c.take-taken.new.self c.take-taken.ensures.kept.0
    (λ t below. c.withdraw.ensures t (omega arith)) tenant (omega arith)

after : (c : goal.After-self-2-1) → IsAfter c.args.self.now c.args.worker c.args.segment.core
    (Event.Take c.args.segment.segment) (take_answer c.take-taken.result)
    (record c.self.inside {
      cores = with_item c.self.inside.cores c.from-2.result c.take-taken.new.self;
      sums = with_item c.self.inside.sums c.from-3.result c.deposit.new.row;
    })
after c =
    counted_call
    (found c.self.invariant c.self.view_is c.index_mut-core.ensures.value
    (omega (arith, c.self.inside.cores.ok.0)) c.requires.worker)
    (record { step = c.take-taken.ensures.chosen; kept = c.take-taken.ensures.kept })
    c.args.segment.core c.withdraw.new.row c.deposit.new.row refl c.from-2.ensures
    c.from-3.ensures c.index_mut-row.ensures.value
    (λ tenant less. c.withdraw.ensures tenant (omega arith))
    (λ tenant less. c.deposit.ensures tenant (omega arith))

pub invariant_of-self : goal.invariant_of-self
invariant_of-self c = (after c).kept

pub returns-clause-step : goal.returns-clause-step
returns-clause-step c = (after c).step

pub returns-clause-kept : goal.returns-clause-kept
returns-clause-kept c = (after c).kept.sound

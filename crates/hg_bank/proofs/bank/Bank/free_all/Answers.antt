use Rattle.std.proofs.Common.{ap, length, arith}
use Rattle.std.specs.Vec.{with_item}
use Rattle.hg_place.specs.declared.Handle.{Handle}
use Rattle.hg_machine.specs.declared.Event.TheVariants as Event
use Rattle.hg_bulk.specs.Freeing.{FreesAll}
use Rattle.hg_bank.proofs.CallLemmas.{IsDone, found, inside_worker, covered, room_for}
use Rattle.hg_bank.proofs.CallLemmas.{counted_run, core_sound_is, core_worker}
use Rattle.hg_bank.proofs.RunLemmas.{run_policy, other_charges}
use Rattle.hg_bank.proofs.bank.Bank.free_all.Goals as goal

pub index_mut-row-requires : goal.index_mut-row-requires
index_mut-row-requires c =
    let f = found c.self.invariant c.self.view_is c.index_mut-one.ensures.value
    (omega (arith, c.self.inside.cores.ok.0)) c.requires in
    let inside = inside_worker f in
    omega (arith, c.self.invariant.sums.workers, c.self.inside.sums.ok.0)

pub withdraw-requires-clause-covered : goal.withdraw-requires-clause-covered
withdraw-requires-clause-covered c tenant less =
    let f = found c.self.invariant c.self.view_is c.index_mut-one.ensures.value
    (omega (arith, c.self.inside.cores.ok.0)) c.requires in
    covered f c.from-3.ensures c.index_mut-row.ensures.value tenant (omega arith)

pub deposit-requires-clause-room : goal.deposit-requires-clause-room
deposit-requires-clause-room c tenant less =
    let f = found c.self.invariant c.self.view_is c.index_mut-one.ensures.value
    (omega (arith, c.self.inside.cores.ok.0)) c.requires in
    room_for f c.from-3.ensures c.index_mut-row.ensures.value c.withdraw.new.row
    c.free_all-freed.new.core c.free_all-freed.ensures.kept.0
    (λ t below. c.withdraw.ensures t (omega arith)) tenant (omega arith)

after : (c : goal.After-self-2-1) → IsDone c.args.self.now c.args.core
    (λ was next. FreesAll was c.args.worker c.args.actor c.args.owner c.free_all-freed.result next)
    (record c.self.inside {
      cores = with_item c.self.inside.cores c.from-2.result c.free_all-freed.new.core;
      sums = with_item c.self.inside.sums c.from-3.result c.deposit.new.row;
    })
after c =
    let f = found c.self.invariant c.self.view_is c.index_mut-one.ensures.value
    (omega (arith, c.self.inside.cores.ok.0)) c.requires in
    let event = λ (handle : Handle). Event.Free c.args.actor handle in
    let run = c.free_all-freed.ensures.freed.run in
    counted_run f
    (record {
      policy = run_policy c.args.worker event _ _ _ _ run;
      kept = c.free_all-freed.ensures.kept;
    })
    c.args.core c.withdraw.new.row c.deposit.new.row c.from-2.ensures c.from-3.ensures
    c.index_mut-row.ensures.value (λ tenant less. c.withdraw.ensures tenant (omega arith))
    (λ tenant less. c.deposit.ensures tenant (omega arith))
    (other_charges c.args.worker event _ _ _ _ (core_sound_is f) (core_worker f) run)
    c.free_all-freed.ensures.freed

pub invariant_of-self : goal.invariant_of-self
invariant_of-self c = (after c).kept

pub returns-clause-freed : goal.returns-clause-freed
returns-clause-freed c = record {
  there = λ below. (after c).done;
  missing = λ past.
      let e = ap (λ b. length b.cores) c.self.view_is in
      absurd (omega (arith, c.self.inside.cores.ok.0));
}

pub returns-clause-kept : goal.returns-clause-kept
returns-clause-kept c = (after c).kept.sound

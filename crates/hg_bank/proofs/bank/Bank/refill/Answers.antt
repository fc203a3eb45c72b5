use Rattle.std.proofs.Common.{arith, set, ◌∙◌}
use Rattle.std.proofs.lemmas.List.{length-set}
use Rattle.hg_bank.proofs.CallLemmas.{read_of}
use Rattle.hg_bank.proofs.PlacingLemmas.{current_below, placed_sound, placed_sums}
use Rattle.hg_bank.proofs.bank.Bank.refill.Goals as goal

pub next_with_segment-requires-clause-current : goal.next_with_segment-requires-clause-current
next_with_segment-requires-clause-current c =
    let read = read_of c.self.invariant c.self.view_is c.requires.worker c.from.ensures
    c.index_mut-row.ensures.value in
    let below = current_below read c.from-2.ensures c.index_mut-currents.ensures.value
    c.from-3.ensures in
    omega (arith, c.self.inside.cores.ok.0)

pub invariant_of-self-2 : goal.invariant_of-self-2
invariant_of-self-2 c =
    let read = read_of c.self.invariant c.self.view_is c.requires.worker c.from.ensures
    c.index_mut-row.ensures.value in
    let served = c.in-Some.ensures.served in
    record {
      sound = placed_sound read c.from-2.ensures c.index_mut-currents.ensures.value
          c.from-4.ensures served;
      room = c.in-Some.ensures.room ∙ c.self.invariant.room;
      rows = length-set c.self.inside.currents.items c.from-2.result
          (set c.index_mut-currents.result.now c.from-4.result c.in-Some.segment.core)
          ∙ c.self.invariant.rows;
      sums = placed_sums read c.next_with_segment.new.row served
          (λ tenant less. c.in-Some.ensures.counted.each tenant (omega arith));
    }

pub returns-clause-kept : goal.returns-clause-kept
returns-clause-kept c = (invariant_of-self-2 c).sound

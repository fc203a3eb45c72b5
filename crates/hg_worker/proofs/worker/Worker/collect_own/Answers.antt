use Rattle.std.proofs.Common.{sym, None, refl}
use Rattle.hg_heap.proofs.PolicyKept.{kinds_keep_policy}
use Rattle.hg_machine.specs.declared.Answer.TheVariants as answer
use Rattle.hg_machine.specs.declared.Event.TheVariants as event
use Rattle.hg_worker.specs.Had.{hand_place, hand_generation}
use Rattle.hg_worker.specs.Seats.{number_in, records_in, part_of_seat}
use Rattle.hg_worker.specs.Workers.{had_in}
use Rattle.hg_worker.proofs.Allocs.{slots_in}
use Rattle.hg_worker.proofs.Hands.{knows_still, bare_grown, the_same}
use Rattle.hg_worker.proofs.Records.{bare_goes}
use Rattle.hg_worker.proofs.Seats.{machines_unseen, machines_any}
use Rattle.hg_worker.proofs.Tables.{bare_on_table}
use Rattle.hg_worker.proofs.Workers.{whole_of}
use Rattle.hg_worker.proofs.worker.Worker.collect_own.Goals as goal

pub invariant_of-inner : goal.invariant_of-inner
invariant_of-inner g c =
    let s = c.deref_mut-inner.result.now in
    record {
      sound = s.sound;
      below = s.below;
      words = s.words;
      of = kinds_keep_policy number_in s.policy s.heap.segments c.collect.new.self.segments
          c.collect.ensures.kinds s.of;
      together = bare_on_table s.heap.segments c.collect.new.self.segments
          c.collect.ensures.collected.rest s.together;
      reach = s.reach;
      known = knows_still number_in part_of_seat (the_same (had_in s).own)
          (bare_grown number_in part_of_seat c.collect.ensures.collected.rest) s.known;
    }

pub returns-clause-collect : goal.returns-clause-collect
returns-clause-collect g c =
    rw (sym c.deref_mut-inner.ensures.value)
    (let s = c.deref_mut-inner.result.now in
    let old = had_in s in
    machines_unseen old (record old { heap = c.collect.new.self }) event.Collect
    (answer.Pages c.collect.result) None (whole_of s c.settled.ensures.each)
    (c.collect.ensures.ties s.policy None s.of s.number (hand_place s.hand)
    (hand_generation s.hand) s.below))

pub returns-clause-seats : goal.returns-clause-seats
returns-clause-seats g c =
    rw (sym c.deref_mut-inner.ensures.value)
    (record {
      own = refl;
      segments = slots_in number_in part_of_seat c.deref_mut-inner.result.now.heap.segments
          c.collect.new.self.segments c.collect.ensures.collected.rest;
    })

pub returns-clause-any : goal.returns-clause-any
returns-clause-any g c =
    rw (sym c.deref_mut-inner.ensures.value)
    (λ shown may.
    let s = c.deref_mut-inner.result.now in
    let old = had_in s in
    machines_any old (record old { heap = c.collect.new.self }) shown event.Collect
    (answer.Pages c.collect.result) shown (whole_of s c.settled.ensures.each) may
    (c.collect.ensures.ties s.policy shown s.of s.number (hand_place s.hand)
    (hand_generation s.hand) s.below))

pub returns-clause-home : goal.returns-clause-home
returns-clause-home g c =
    rw (sym c.deref_mut-inner.ensures.value)
    (bare_goes number_in records_in _ _ c.collect.ensures.collected.rest)

pub returns-clause-any_hand : goal.returns-clause-any_hand
returns-clause-any_hand g c =
    rw (sym c.deref_mut-inner.ensures.value)
    (λ shown.
    c.collect.ensures.ties c.deref_mut-inner.result.now.policy shown
    c.deref_mut-inner.result.now.of)

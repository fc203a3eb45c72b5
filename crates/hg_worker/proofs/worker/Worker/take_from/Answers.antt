use Rattle.std.proofs.Common.{◌≡◌, ◌≤◌, ℕ, refl, sym, ◌∙◌, subst}
use Rattle.hg_heap.proofs.PolicyKept.{kinds_keep_policy}
use Rattle.hg_heap.proofs.TakingKept.{taking_keeps}
use Rattle.hg_remote.specs.Order.{drained}
use Rattle.hg_worker.specs.Seats.{number_in, records_in, part_of_seat}
use Rattle.hg_worker.specs.Seats.{seat_shows, seat_steps}
use Rattle.hg_worker.specs.Workers.{had_in}
use Rattle.hg_worker.proofs.Hands.{knows_still, the_same}
use Rattle.hg_heap.specs.Homecoming.{HaveComeHome}
use Rattle.hg_machine.specs.declared.Answer.TheVariants as answer
use Rattle.hg_remote.specs.Remote.{contents}
use Rattle.hg_worker.proofs.Records.{stay_goes, none_goes, taken_goes}
use Rattle.hg_worker.proofs.Tables.{taking_on_table}
use Rattle.hg_worker.proofs.Takings.{taking_leaves_lives, taking_grown}
use Rattle.hg_worker.proofs.worker.Worker.take_from.Goals as goal

pub invariant_of-inner : goal.invariant_of-inner
invariant_of-inner g c =
    let s = c.deref_mut-inner.result.now in
    let taken = c.take.ensures.taken (sym c.holds.ensures ∙ c.if-not-holds.false) in
    record {
      sound = s.sound;
      below = s.below;
      words = s.words;
      of = kinds_keep_policy number_in s.policy s.heap.segments c.take.new.self.segments
          (taking_keeps number_in records_in seat_shows seat_steps c.args.segment c.take.result
          (drained c.args.list.now) s.heap c.take.new.self taken).kinds s.of;
      together = taking_on_table c.args.segment c.take.result (drained c.args.list.now) s.heap
          c.take.new.self taken s.together;
      reach = s.reach;
      known = knows_still number_in part_of_seat (the_same (had_in s).own)
          (taking_grown c.args.segment c.take.result (drained c.args.list.now) s.heap
          c.take.new.self taken) s.known;
    }

pub returns-clause-lives : goal.returns-clause-lives
returns-clause-lives g c =
    rw (sym c.deref_mut-inner.ensures.value)
    (let s = c.deref_mut-inner.result.now in
    taking_leaves_lives c.args.segment c.take.result (drained c.args.list.now) (had_in s) _ refl
    (c.take.ensures.taken (sym c.holds.ensures ∙ c.if-not-holds.false)))

taken_so : (n count : ℕ) → answer.Taken n ≡ answer.Taken count → n ≡ count
taken_so n count e = cc

pub returns-then-not-holds-clause-whole : goal.returns-then-not-holds-clause-whole
returns-then-not-holds-clause-whole g c =
    rw (sym c.deref_mut-inner.ensures.value)
    (λ count is. absurd (cc))

pub returns-then-not-holds-clause-home : goal.returns-then-not-holds-clause-home
returns-then-not-holds-clause-home g c =
    rw (sym c.deref_mut-inner.ensures.value)
    (none_goes number_in records_in _ _ _ (stay_goes number_in records_in _))

pub returns-clause-whole : goal.returns-clause-whole
returns-clause-whole g c =
    rw (sym c.deref_mut-inner.ensures.value)
    (λ count is.
    let same = taken_so c.take.result count is in (
      subst (λ n. n ≤ 8192) same c.take.ensures.few,
      subst (λ n. HaveComeHome number_in records_in c.args.segment (contents c.args.list.now)
          c.deref_mut-inner.result.now.heap.segments c.take.new.self.segments n) same
          (c.take.ensures.whole (sym c.holds.ensures ∙ c.if-not-holds.false)),
    ))

pub returns-clause-home : goal.returns-clause-home
returns-clause-home g c =
    rw (sym c.deref_mut-inner.ensures.value)
    (taken_goes number_in records_in
    (c.take.ensures.whole (sym c.holds.ensures ∙ c.if-not-holds.false)))

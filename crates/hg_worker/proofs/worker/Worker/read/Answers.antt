use Rattle.std.proofs.lemmas.Bool.{true≢false}
use Rattle.std.proofs.Common.{◌≡◌, true, refl, sym, ap, map, ◌∙◌}
use Rattle.hg_heap.specs.Held.{Held, is_held}
use Rattle.hg_heap.specs.Judged.{IsJudged}
use Rattle.hg_heap.specs.Keeping.{rest_of}
use Rattle.hg_machine.specs.declared.Event.TheVariants as event
use Rattle.hg_place.specs.declared.Right.TheVariants as right
use Rattle.hg_worker.specs.Judged.{rule_of}
use Rattle.hg_worker.specs.Seats.{number_in, records_in, part_of_seat}
use Rattle.hg_worker.specs.Workers.{had, had_in}
use Rattle.hg_worker.proofs.Judged.{judged_by, rule_away, rule_read}
use Rattle.hg_worker.proofs.Records.{all_goes}
use Rattle.hg_worker.proofs.Workers.{IsUse, stepped_stays, held_by}
use Rattle.hg_worker.proofs.Workers.{held_use, held_finds, away_call}
use Rattle.hg_worker.proofs.worker.Worker.read.Given.{Over}
use Rattle.hg_worker.proofs.worker.Worker.read.Goals as goal
use Rattle.hg_worker.proofs.worker.Worker.read.Goals.{After-read_answer}

here : (g : Over) (c : After-read_answer g)
    → is_held number_in c.deref_mut-inner.result.now.heap.segments c.args.handle.place.segment
    ≡ true
here g c = held_by _ c.deref_mut-inner.ensures.value (sym c.holds.ensures ∙ c.if-not-holds.false)

-- what the call comes to where the worker holds the segment
used : (g : Over) (c : After-read_answer g)
    → IsUse c.args.handle.place (event.Read c.args.actor c.args.handle c.args.index)
    c.read_answer.result (had_in c.args.self.now.inner.value)
    (record (had_in c.deref_mut-inner.result.now) { heap = c.read.new.self })
used g c =
    let e = c.read.ensures.held (here g c) in
    held_use c.deref_mut-inner.ensures.value c.read.new.self c.args.handle.place
    c.settled-2.ensures.each c.settled-2.ensures.once (here g c) e.0 e.1
    (event.Read c.args.actor c.args.handle c.args.index) c.read_answer.result _
    c.read_answer.ensures e.2

pub invariant_of-inner : goal.invariant_of-inner
invariant_of-inner g c =
    let s = c.deref_mut-inner.result.now in
    let e = c.read.ensures.held (held_by _ c.deref_mut-inner.ensures.value
    (sym c.holds.ensures ∙ c.if-not-holds.false)) in
    let stays = stepped_stays s c.read.new.self c.args.handle.place e.0 e.0 e.1 in
    record {
      sound = s.sound;
      below = s.below;
      words = s.words;
      of = stays.of;
      together = stays.together;
      reach = s.reach;
      known = stays.known;
    }

pub returns-clause-read : goal.returns-clause-read
returns-clause-read g c = (used g c).seen

pub returns-clause-judged : goal.returns-clause-judged
returns-clause-judged g c =
    let e = c.read.ensures.judged (here g c) in
    held_finds c.deref_mut-inner.ensures.value c.read.new.self c.args.handle.place
    c.settled-2.ensures.each c.settled-2.ensures.once (here g c) e.0 e.1
    (λ w word.
    IsJudged w.policy c.args.actor.0 right.Read c.args.handle word (rule_of c.read_answer.result))
    (rw (ap rule_of c.read_answer.ensures ∙ rule_read c.read.result) e.2)

pub returns-clause-any_hand : goal.returns-clause-any_hand
returns-clause-any_hand g c = λ held. (used g c).any_hand

pub returns-clause-once : goal.returns-clause-once
returns-clause-once g c = (used g c).once

pub returns-clause-home : goal.returns-clause-home
returns-clause-home g c =
    rw (sym c.deref_mut-inner.ensures.value)
    (all_goes number_in records_in _ _ c.read.ensures.kept)

-- and where it doesn't
pub returns-then-not-holds-clause-read : goal.returns-then-not-holds-clause-read
returns-then-not-holds-clause-read g c =
    away_call c.args.self.now.inner.value c.out_of_reach.new.self.inner.value c.args.handle.place
    (event.Read c.args.actor c.args.handle c.args.index) c.out_of_reach.result _ _
    c.settled.ensures c.out_of_reach.ensures.heap c.out_of_reach.ensures.rest
    c.out_of_reach.ensures.judged (sym c.holds.ensures ∙ c.if-not-holds.true)
    (record { at = λ shown at. at; refusal = λ shown. refl })

pub returns-then-not-holds-clause-judged : goal.returns-then-not-holds-clause-judged
returns-then-not-holds-clause-judged g c =
    let s = c.args.self.now.inner.value in
    let e = c.out_of_reach.ensures.judged in (
      e.0,
      e.1,
      judged_by number_in part_of_seat s.policy c.args.actor.0 right.Read c.args.handle e.0
          (had_in s) (had c.out_of_reach.new.self) (rule_of c.out_of_reach.result) e.1
          (sym (ap rule_of e.2 ∙ rule_away _)),
    )

pub returns-then-not-holds-clause-kept : goal.returns-then-not-holds-clause-kept
returns-then-not-holds-clause-kept g c =
    ap (λ (h : Held _). map (rest_of number_in records_in) h.segments) c.out_of_reach.ensures.heap

pub returns-then-not-holds-clause-home : goal.returns-then-not-holds-clause-home
returns-then-not-holds-clause-home g c =
    all_goes number_in records_in _ _ (returns-then-not-holds-clause-kept g c)

pub returns-then-not-holds-clause-any_hand : goal.returns-then-not-holds-clause-any_hand
returns-then-not-holds-clause-any_hand g c =
    λ held.
    absurd (true≢false (sym held ∙ (sym c.holds.ensures ∙ c.if-not-holds.true)))

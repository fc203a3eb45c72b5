use Rattle.std.proofs.lemmas.Bool.{true≢false}
use Rattle.std.proofs.Common.{◌≡◌, true, refl, sym, ap, map, subst, ◌∙◌}
use Rattle.std.specs.Prelude.{Result, Ok, Err, OnOk, OnErr, IsTrue, IsFalse}
use Rattle.hg_heap.specs.Answers.{done_answer}
use Rattle.hg_heap.specs.declared.refused.Refused.{Refused}
use Rattle.hg_worker.specs.Answers.{is_done}
use Rattle.hg_heap.specs.Held.{Held, is_held}
use Rattle.hg_heap.specs.Judged.{IsJudged}
use Rattle.hg_heap.specs.Keeping.{rest_of}
use Rattle.hg_machine.specs.declared.Event.TheVariants as event
use Rattle.hg_place.specs.declared.Right.TheVariants as right
use Rattle.hg_worker.specs.Judged.{rule_of}
use Rattle.hg_worker.specs.Seats.{number_in, records_in, part_of_seat}
use Rattle.hg_worker.specs.Workers.{had, had_in}
use Rattle.hg_worker.proofs.Judged.{judged_by, rule_away, rule_done, not_away, not_refused}
use Rattle.hg_worker.proofs.Records.{all_goes, wrote_goes}
use Rattle.hg_worker.proofs.Workers.{IsUse, stepped_stays, held_by}
use Rattle.hg_worker.proofs.Workers.{held_use, held_finds, away_call}
use Rattle.hg_worker.proofs.worker.Worker.write.Given.{Over}
use Rattle.hg_worker.proofs.worker.Worker.write.Goals as goal
use Rattle.hg_worker.proofs.worker.Worker.write.Goals.{After-done_answer}

-- what is so where a call is served, and where it isn't
where_done : {X P : Type 0} (r : Result X Refused) → OnOk r P → IsTrue (is_done (done_answer r)) → P
where_done (Ok x) p is = p
where_done (Err why) p is = absurd (true≢false (sym is ∙ not_refused why))

where_refused : {X P : Type 0} (r : Result X Refused) → OnErr r P
    → IsFalse (is_done (done_answer r)) → P
where_refused (Ok x) p is = absurd (true≢false is)
where_refused (Err why) p is = p

either : {X P Q G : Type 0} (r : Result X Refused) → OnOk r P → OnErr r Q → (P → G) → (Q → G) → G
either (Ok x) p q f h = f p
either (Err why) p q f h = h q

here : (g : Over) (c : After-done_answer g)
    → is_held number_in c.deref_mut-inner.result.now.heap.segments c.args.handle.place.segment
    ≡ true
here g c = held_by _ c.deref_mut-inner.ensures.value (sym c.holds.ensures ∙ c.if-not-holds.false)

-- what the call comes to where the worker holds the segment
used : (g : Over) (c : After-done_answer g)
    → IsUse c.args.handle.place (event.Write c.args.actor c.args.handle c.args.index c.args.value)
    c.done_answer.result (had_in c.args.self.now.inner.value)
    (record (had_in c.deref_mut-inner.result.now) { heap = c.write.new.self })
used g c =
    let e = c.write.ensures.held (here g c) in
    held_use c.deref_mut-inner.ensures.value c.write.new.self c.args.handle.place
    c.settled-2.ensures.each c.settled-2.ensures.once (here g c) e.0 e.1
    (event.Write c.args.actor c.args.handle c.args.index c.args.value) c.done_answer.result _
    c.done_answer.ensures e.2

pub invariant_of-inner : goal.invariant_of-inner
invariant_of-inner g c =
    let s = c.deref_mut-inner.result.now in
    let e = c.write.ensures.held (held_by _ c.deref_mut-inner.ensures.value
    (sym c.holds.ensures ∙ c.if-not-holds.false)) in
    let stays = stepped_stays s c.write.new.self c.args.handle.place e.0 e.0 e.1 in
    record {
      sound = s.sound;
      below = s.below;
      words = s.words;
      of = stays.of;
      together = stays.together;
      reach = s.reach;
      known = stays.known;
    }

pub returns-clause-write : goal.returns-clause-write
returns-clause-write g c = (used g c).seen

pub returns-clause-judged : goal.returns-clause-judged
returns-clause-judged g c =
    let e = c.write.ensures.judged (here g c) in
    held_finds c.deref_mut-inner.ensures.value c.write.new.self c.args.handle.place
    c.settled-2.ensures.each c.settled-2.ensures.once (here g c) e.0 e.1
    (λ w word.
    IsJudged w.policy c.args.actor.0 right.Write c.args.handle word (rule_of c.done_answer.result))
    (rw (ap rule_of c.done_answer.ensures ∙ rule_done c.write.result) e.2)

pub returns-clause-any_hand : goal.returns-clause-any_hand
returns-clause-any_hand g c = λ held. (used g c).any_hand

pub returns-clause-once : goal.returns-clause-once
returns-clause-once g c = (used g c).once

pub returns-clause-kept : goal.returns-clause-kept
returns-clause-kept g c =
    rw (sym c.deref_mut-inner.ensures.value)
    (λ is.
    where_refused c.write.result c.write.ensures.kept
    (subst (λ a. IsFalse (is_done a)) c.done_answer.ensures is))

pub returns-clause-wrote : goal.returns-clause-wrote
returns-clause-wrote g c =
    rw (sym c.deref_mut-inner.ensures.value)
    (λ is.
    where_done c.write.result c.write.ensures.wrote
    (subst (λ a. IsTrue (is_done a)) c.done_answer.ensures is))

pub returns-clause-home : goal.returns-clause-home
returns-clause-home g c =
    rw (sym c.deref_mut-inner.ensures.value)
    (either c.write.result c.write.ensures.wrote c.write.ensures.kept
    (wrote_goes number_in records_in) (all_goes number_in records_in _ _))

-- and where it doesn't
pub returns-then-not-holds-clause-write : goal.returns-then-not-holds-clause-write
returns-then-not-holds-clause-write g c =
    away_call c.args.self.now.inner.value c.out_of_reach.new.self.inner.value c.args.handle.place
    (event.Write c.args.actor c.args.handle c.args.index c.args.value) c.out_of_reach.result _ _
    c.settled.ensures c.out_of_reach.ensures.heap c.out_of_reach.ensures.rest
    c.out_of_reach.ensures.judged (sym c.holds.ensures ∙ c.if-not-holds.true)
    (record { at = λ shown at. at; refusal = λ shown. refl })

pub returns-then-not-holds-clause-judged : goal.returns-then-not-holds-clause-judged
returns-then-not-holds-clause-judged g c =
    let s = c.args.self.now.inner.value in
    let e = c.out_of_reach.ensures.judged in (
      e.0,
      e.1,
      judged_by number_in part_of_seat s.policy c.args.actor.0 right.Write c.args.handle e.0
          (had_in s) (had c.out_of_reach.new.self) (rule_of c.out_of_reach.result) e.1
          (sym (ap rule_of e.2 ∙ rule_away _)),
    )

pub returns-then-not-holds-clause-kept : goal.returns-then-not-holds-clause-kept
returns-then-not-holds-clause-kept g c =
    λ _.
    ap (λ (h : Held _). map (rest_of number_in records_in) h.segments) c.out_of_reach.ensures.heap

pub returns-then-not-holds-clause-wrote : goal.returns-then-not-holds-clause-wrote
returns-then-not-holds-clause-wrote g c =
    λ is.
    absurd (true≢false (sym is ∙ ap is_done c.out_of_reach.ensures.judged.2 ∙ not_away _))

pub returns-then-not-holds-clause-home : goal.returns-then-not-holds-clause-home
returns-then-not-holds-clause-home g c =
    all_goes number_in records_in _ _
    (ap (λ (h : Held _). map (rest_of number_in records_in) h.segments)
    c.out_of_reach.ensures.heap)

pub returns-then-not-holds-clause-any_hand : goal.returns-then-not-holds-clause-any_hand
returns-then-not-holds-clause-any_hand g c =
    λ held.
    absurd (true≢false (sym held ∙ (sym c.holds.ensures ∙ c.if-not-holds.true)))

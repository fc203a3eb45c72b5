use Rattle.std.proofs.lemmas.Bool.{true≢false}
use Rattle.std.proofs.Common.{◌≡◌, Some, None, [], ◌∷◌, refl, sym, ap, ◌∙◌, subst, map, max}
use Rattle.std.specs.Prelude.{Option}
use Rattle.hg_heap.specs.Answers.{away_answer, list_denial}
use Rattle.hg_heap.specs.Held.{Held}
use Rattle.hg_heap.specs.Keeping.{rest_of}
use Rattle.hg_heap.specs.Reading.{block_in, IsRowOf}
use Rattle.hg_machine.specs.Denial.{denial_on}
use Rattle.hg_machine.specs.declared.Answer.TheVariants as answer
use Rattle.hg_machine.specs.declared.Event.TheVariants as event
use Rattle.hg_machine.specs.declared.Row.{Row}
use Rattle.hg_machine.specs.declared.Rule.{Rule}
use Rattle.hg_place.specs.Slots.{Slot}
use Rattle.hg_place.specs.declared.Right.TheVariants as right
use Rattle.hg_worker.specs.Answers.{rows_in}
use Rattle.hg_worker.specs.Judged.{rule_of}
use Rattle.hg_worker.specs.Seats.{number_in, records_in}
use Rattle.hg_worker.specs.Workers.{had_in}
use Rattle.hg_worker.proofs.Judged.{found_slot, rule_away}
use Rattle.hg_worker.proofs.Records.{all_goes}
use Rattle.hg_worker.proofs.Workers.{IsUse, stepped_stays, held_by}
use Rattle.hg_worker.proofs.Workers.{held_looks, held_use, held_finds, away_call}
use Rattle.hg_worker.proofs.worker.Worker.look.Given.{Over}
use Rattle.hg_worker.proofs.worker.Worker.look.Goals as goal
use Rattle.hg_worker.proofs.worker.Worker.look.Goals.{In-Some, After-refused_answer}

same_row : (row other : Row) → answer.Listed row ≡ answer.Listed other → row ≡ other
same_row row other e = let rows : row ∷ [] ≡ other ∷ [] = ap rows_in e in cc

no_row_away : (denial : Option Rule) (row : Row) → away_answer denial ≡ answer.Listed row → ⊥
no_row_away None row e = absurd (cc)
no_row_away (Some rule) row e = absurd (cc)

-- what the call comes to where the worker holds the segment, with a row and without
listed : (g : Over) (c : In-Some g)
    → IsUse c.args.place (event.Look c.args.actor c.args.place) (answer.Listed c.in-Some.row)
    (had_in c.args.self.now.inner.value)
    (record (had_in c.deref_mut-inner.result.now) { heap = c.look.new.self })
listed g c =
    held_use c.deref_mut-inner.ensures.value c.look.new.self c.args.place
    c.settled-2.ensures.each c.settled-2.ensures.once
    (held_by _ c.deref_mut-inner.ensures.value (sym c.holds.ensures ∙ c.if-not-holds.false))
    c.look.new.shown c.look.ensures.step (event.Look c.args.actor c.args.place)
    (answer.Listed c.in-Some.row) _ refl c.in-Some.ensures.ties

unlisted : (g : Over) (c : After-refused_answer g)
    → IsUse c.args.place (event.Look c.args.actor c.args.place) c.refused_answer.result
    (had_in c.args.self.now.inner.value)
    (record (had_in c.deref_mut-inner.result.now) { heap = c.look.new.self })
unlisted g c =
    held_use c.deref_mut-inner.ensures.value c.look.new.self c.args.place
    c.settled-2.ensures.each c.settled-2.ensures.once
    (held_by _ c.deref_mut-inner.ensures.value (sym c.holds.ensures ∙ c.if-not-holds.false))
    c.look.new.shown c.look.ensures.step (event.Look c.args.actor c.args.place)
    c.refused_answer.result _ (c.refused_answer.ensures ∙ c.unlisted.ensures) c.in-None.ensures.ties

pub invariant_of-inner : goal.invariant_of-inner
invariant_of-inner g c =
    let s = c.deref_mut-inner.result.now in
    let word = c.look.new.shown in
    let stays = stepped_stays s c.look.new.self c.args.place word word c.look.ensures.step in
    record {
      sound = s.sound;
      below = s.below;
      words = s.words;
      of = stays.of;
      together = stays.together;
      reach = s.reach;
      known = stays.known;
    }

pub returns-in-Some-clause-look : goal.returns-in-Some-clause-look
returns-in-Some-clause-look g c =
    (listed g c).seen

pub returns-in-Some-clause-any_hand : goal.returns-in-Some-clause-any_hand
returns-in-Some-clause-any_hand g c =
    λ held.
    (listed g c).any_hand

pub returns-in-Some-clause-once : goal.returns-in-Some-clause-once
returns-in-Some-clause-once g c =
    (listed g c).once

pub returns-in-None-clause-look : goal.returns-in-None-clause-look
returns-in-None-clause-look g c = (unlisted g c).seen

pub returns-in-None-clause-any_hand : goal.returns-in-None-clause-any_hand
returns-in-None-clause-any_hand g c = λ held. (unlisted g c).any_hand

pub returns-in-None-clause-once : goal.returns-in-None-clause-once
returns-in-None-clause-once g c = (unlisted g c).once

pub returns-in-Some-clause-judged : goal.returns-in-Some-clause-judged
returns-in-Some-clause-judged g c =
    held_finds c.deref_mut-inner.ensures.value c.look.new.self c.args.place
    c.settled-2.ensures.each c.settled-2.ensures.once
    (held_by _ c.deref_mut-inner.ensures.value (sym c.holds.ensures ∙ c.if-not-holds.false))
    c.look.new.shown c.look.ensures.step
    (λ w word. list_denial w.policy c.args.actor c.args.place word ≡ None)
    c.in-Some.ensures.allowed

pub returns-in-None-clause-judged : goal.returns-in-None-clause-judged
returns-in-None-clause-judged g c =
    held_finds c.deref_mut-inner.ensures.value c.look.new.self c.args.place
    c.settled-2.ensures.each c.settled-2.ensures.once
    (held_by _ c.deref_mut-inner.ensures.value (sym c.holds.ensures ∙ c.if-not-holds.false))
    c.look.new.shown c.look.ensures.step
    (λ w word. list_denial w.policy c.args.actor c.args.place word ≡ rule_of
    c.refused_answer.result)
    (sym (ap rule_of (c.refused_answer.ensures ∙ c.unlisted.ensures) ∙ rule_away _))

pub returns-in-Some-clause-row : goal.returns-in-Some-clause-row
returns-in-Some-clause-row g c =
    rw (sym c.deref_mut-inner.ensures.value)
    (λ row is.
    let s = c.deref_mut-inner.result.now in (
      c.look.new.shown,
      held_looks s c.look.new.self c.args.place c.settled-2.ensures.each
          c.settled-2.ensures.once
          (held_by _ c.deref_mut-inner.ensures.value (sym c.holds.ensures ∙ c.if-not-holds.false))
          c.look.new.shown c.look.ensures.step,
      c.in-Some.ensures.live,
      subst (IsRowOf c.args.place c.look.new.shown
          (block_in number_in s.heap.segments c.args.place)) (same_row c.in-Some.row row is)
          c.in-Some.ensures.row,
    ))

pub returns-in-None-clause-row : goal.returns-in-None-clause-row
returns-in-None-clause-row g c =
    λ row is.
    absurd (no_row_away _ row (sym (c.refused_answer.ensures ∙ c.unlisted.ensures) ∙ is))

pub returns-in-Some-clause-home : goal.returns-in-Some-clause-home
returns-in-Some-clause-home g c =
    rw (sym c.deref_mut-inner.ensures.value)
    (all_goes number_in records_in _ _ c.look.ensures.kept)

pub returns-in-None-clause-home : goal.returns-in-None-clause-home
returns-in-None-clause-home g c =
    rw (sym c.deref_mut-inner.ensures.value)
    (all_goes number_in records_in _ _ c.look.ensures.kept)

-- and where it doesn't
pub returns-then-not-holds-clause-look : goal.returns-then-not-holds-clause-look
returns-then-not-holds-clause-look g c =
    away_call c.args.self.now.inner.value c.out_of_sight.new.self.inner.value c.args.place
    (event.Look c.args.actor c.args.place) c.out_of_sight.result _ _ c.settled.ensures
    c.out_of_sight.ensures.heap c.out_of_sight.ensures.rest c.out_of_sight.ensures.judged
    (sym c.holds.ensures ∙ c.if-not-holds.true)
    (record { at = λ shown at. at; refusal = λ shown. refl })

pub returns-then-not-holds-clause-judged : goal.returns-then-not-holds-clause-judged
returns-then-not-holds-clause-judged g c =
    let s = c.args.self.now.inner.value in
    let e = c.out_of_sight.ensures.judged in (
      e.0,
      e.1,
      ap (λ (w : Slot). denial_on s.policy c.args.actor.0 right.List c.args.place.segment
          (max 1 w.generation) w) (found_slot e.0)
          ∙ sym (ap rule_of e.2 ∙ rule_away _),
    )

pub returns-then-not-holds-clause-row : goal.returns-then-not-holds-clause-row
returns-then-not-holds-clause-row g c =
    λ row is.
    absurd (no_row_away _ row (sym c.out_of_sight.ensures.judged.2 ∙ is))

pub returns-then-not-holds-clause-home : goal.returns-then-not-holds-clause-home
returns-then-not-holds-clause-home g c =
    all_goes number_in records_in _ _
    (ap (λ (h : Held _). map (rest_of number_in records_in) h.segments)
    c.out_of_sight.ensures.heap)

pub returns-then-not-holds-clause-any_hand : goal.returns-then-not-holds-clause-any_hand
returns-then-not-holds-clause-any_hand g c =
    λ held.
    absurd (true≢false (sym held ∙ (sym c.holds.ensures ∙ c.if-not-holds.true)))

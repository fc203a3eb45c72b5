use Rattle.std.proofs.Common.{◌≡◌, ℕ, ◌<◌, Option, Some, None, true, false, not, is_some, map, refl, sym, ap, subst, ◌∙◌}
use Rattle.hg_place.specs.Places.{number_of}
use Rattle.hg_machine.specs.Policy.{Policy, arena_of}
use Rattle.hg_machine.specs.declared.Answer.{Answer}
use Rattle.hg_machine.specs.declared.Event.{Event}
use Rattle.hg_place.specs.Slots.{slot_in}
use Rattle.hg_agreement.specs.Agreement.{Ties}
use Rattle.hg_agreement.specs.Seen.{IsShownFor, refusal_in}
use Rattle.hg_agreement.specs.Views.{Shown, slot_shown}
use Rattle.hg_run_worker.specs.declared.worker.RunWorker.{RunWorker}
use Rattle.hg_agreement.proofs.Frames.{refused_is_tied}
use Rattle.hg_heap.specs.Held.{Held}
use Rattle.hg_heap.specs.Ties.{shown_at}
use Rattle.hg_roles.specs.Served.{places_of_policy}
use Rattle.hg_run_table.specs.Calls.{IsTiedAlone, IsTiedAt}
use Rattle.hg_run_table.specs.declared.segment.RunSegment.{RunSegment}
use Rattle.hg_run_worker.specs.AtWork.{view_in}
use Rattle.hg_run_worker.proofs.Reach.{place_within}
use Rattle.hg_run_worker.proofs.Ready.{decided_here}
use Rattle.hg_run_worker.proofs.worker.RunWorker.refuse_away.Goals as goal

none_is : (o : Option ℕ) → is_some o ≡ false → o ≡ None
none_is None e = refl
none_is (Some n) e = absurd (cc)

-- a refusal is tied at the word that is shown
tied_refusal : (worker : RunWorker) (event : Event) (refused : ℕ → Answer) (word : ℕ)
    (shown : Option Shown) → IsShownFor (view_in worker) event shown
    → ((word : ℕ) → refusal_in (view_in worker) (slot_in word) event ≡ Some (refused word))
    → slot_shown shown ≡ slot_in word
    → Ties (view_in worker) shown event (refused word) (view_in worker) shown
tied_refusal worker event refused word shown about refuses same =
    refused_is_tied (view_in worker) shown event (refused word) worker.below about
    (ap (λ slot. refusal_in (view_in worker) slot event) same ∙ refuses word)

pub call_alone-requires-clause-tied : goal.call_alone-requires-clause-tied
call_alone-requires-clause-tied g c =
    let s = c.args.self.now in
    let r = c.requires in
    let none : arena_of s.policy c.args.place.segment ≡ None =
    sym c.arena_of.ensures ∙ none_is c.arena_of.result (c.is_none.ensures ∙ ap not c.if-is_none.true) in
    subst
    (λ (p : Policy).
    IsTiedAlone p (view_in s) (g.C.RefusedCall.event, g.C.RefusedCall.refused 0) (view_in s))
    (sym r.ready.key)
    (record {
      own = record { worker = s.below; same = refl; own = r.own };
      none = λ other below. r.unchanged 0 other;
      ties = tied_refusal s g.C.RefusedCall.event g.C.RefusedCall.refused 0 None (r.about None none) r.refused refl;
    })

pub returns-then-is_none-clause-called : goal.returns-then-is_none-clause-called
returns-then-is_none-clause-called g c =
    let s = c.args.self.now in
    let r = c.requires in
    let e = c.call_alone.ensures in
    let none : arena_of s.policy c.args.place.segment ≡ None =
    sym c.arena_of.ensures ∙ none_is c.arena_of.result (c.is_none.ensures ∙ ap not c.if-is_none.true) in
    decided_here s c.call_alone.new.self r.ready e.rest
    (ap (λ (h : Held RunSegment). h.segments) e.heap) e.same (e.lives ∙ r.ready.work.bare) e.worker e.log e.agreed
    (tied_refusal s g.C.RefusedCall.event g.C.RefusedCall.refused 0 None (r.about None none) r.refused refl)

pub look_deciding-requires-clause-place : goal.look_deciding-requires-clause-place
look_deciding-requires-clause-place g c =
    let s = c.args.self.now in
    let place = c.args.place in
    subst (λ (p : Policy). number_of place < places_of_policy p) (sym c.requires.ready.key)
    (place_within s.policy place
    (sym (ap is_some c.arena_of.ensures) ∙ (c.is_none.ensures ∙ ap not c.if-is_none.false)))

pub look_deciding-requires-clause-tied : goal.look_deciding-requires-clause-tied
look_deciding-requires-clause-tied g c = λ word.
    let s = c.args.self.now in
    let r = c.requires in
    let shown = shown_at c.args.place word in
    subst
    (λ (p : Policy).
    IsTiedAt p (number_of c.args.place) word word (view_in s)
    (g.C.RefusedCall.event, g.C.RefusedCall.refused word) (view_in s))
    (sym r.ready.key)
    (record {
      own = record { worker = s.below; same = refl; own = r.own };
      alone = λ other below changes. absurd (let no = r.unchanged word other in cc);
      ties = tied_refusal s g.C.RefusedCall.event g.C.RefusedCall.refused word shown (r.about shown refl) r.refused refl;
    })

pub returns-clause-called : goal.returns-clause-called
returns-clause-called g c =
    let s = c.args.self.now in
    let r = c.requires in
    let e = c.look_deciding.ensures in
    let shown = shown_at c.args.place c.look_deciding.result in
    decided_here s c.look_deciding.new.self r.ready e.rest
    (ap (λ (h : Held RunSegment). h.segments) e.heap) e.same (e.lives ∙ ap (map _) r.ready.work.bare) e.worker e.log e.met
    (tied_refusal s g.C.RefusedCall.event g.C.RefusedCall.refused c.look_deciding.result shown
    (r.about shown refl) r.refused refl)

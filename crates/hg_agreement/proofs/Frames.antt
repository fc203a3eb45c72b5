-- Served and refused events of a state that agrees.
use Rattle.std.proofs.Common.{◌≡◌, ℕ, ◌<◌, Option, Some, None, refl, sym, ap, subst, ◌∙◌}
use Rattle.hg_machine.specs.declared.Event.{Event}
use Rattle.hg_machine.specs.declared.Answer.{Answer}
use Rattle.hg_machine.specs.State.{State, hand_of}
use Rattle.hg_machine.specs.Holders.{holds}
use Rattle.hg_machine.specs.Soundness.{IsSound}
use Rattle.hg_machine.specs.Refusal.{refusal}
use Rattle.hg_machine.specs.Served.{IsServed}
use Rattle.hg_machine.specs.Steps.{Step, successor}
use Rattle.hg_machine.proofs.Answered.{state_is_determined, of_some}
use Rattle.hg_machine.proofs.Preserves.{steps_keep_sound}
use Rattle.hg_machine.proofs.Serves.{served_step}
use Rattle.hg_agreement.specs.Views.{View, Shown, slot_shown}
use Rattle.hg_agreement.specs.Agreement.{Agrees, Follows}
use Rattle.hg_agreement.specs.Seen.{IsShownFor, refusal_in}
use Rattle.hg_agreement.specs.Ties.{LikeAgrees, TiesAreLike, RefusedIsTied, TiedCallsAreSteps}
use Rattle.hg_agreement.proofs.Refusals.{refusals_agree}

-- a refused event leaves the state, and so the agreement
refused_follows : (m : State) (w : ℕ) (e : Event) (r : Answer) (view : View) (shown : Option Shown)
    → refusal m w e ≡ Some r → Agrees m view shown → Follows m w e r view shown
refused_follows m w e r view shown is agrees =
    let stay : Step m w e r m =
    of_some (refusal m w e) _ (λ x. (r ≡ x) × (m ≡ m)) r is (refl, refl) in
    let same : m ≡ successor m w e r = state_is_determined m w e r m stay in
    record {
      step = subst (Step m w e r) same stay;
      agrees = subst (λ s. Agrees s view shown) same agrees;
    }

pub refused_is_tied : RefusedIsTied
refused_is_tied view shown e r below at is m agrees =
    refused_follows m view.worker e r view shown (refusals_agree m view shown e agrees at
    ∙ is) agrees

-- a served one: it is to be shown that the successor, which is sound, agrees
pub served_follows : (m : State) (view after : View) (shown left : Option Shown) (e : Event)
    (a : Answer) → view.worker < view.policy.workers → Agrees m view shown → IsShownFor view e shown
    → refusal_in view (slot_shown shown) e ≡ None → IsServed m view.worker e a
    → (IsSound (successor m view.worker e a) → Agrees (successor m view.worker e a) after left)
    → Follows m view.worker e a after left
served_follows m view after shown left e a below agrees at none served then =
    let w = view.worker in
    let step : Step m w e a (successor m w e a) =
    served_step m w e a (successor m w e a) (refusals_agree m view shown e agrees at
    ∙ none) served refl in
    record {
      step = step;
      agrees = then (steps_keep_sound m w e a (successor m w e a) agrees.sound
          (subst (λ p. w < p.workers) (sym agrees.policy) below) step);
    }

pub like_agrees : LikeAgrees
like_agrees m view other shown like agrees = record {
  sound = agrees.sound;
  policy = agrees.policy ∙ sym like.policy;
  holding = λ segment. ap (λ w. holds m w segment) like.worker ∙ agrees.holding segment
      ∙ sym (like.holding segment);
  classes = λ page h. let held = sym (like.holding _) ∙ h in agrees.classes page held
      ∙ sym (like.classes page held);
  standings = λ place h. let held = sym (like.holding _) ∙ h in agrees.standings place held
      ∙ sym (like.standings place held);
  blocks = λ place h. let held = sym (like.holding _) ∙ h in agrees.blocks place held
      ∙ sym (like.blocks place held);
  hand = ap (λ w. hand_of m w) like.worker ∙ agrees.hand ∙ sym like.hand;
  word = agrees.word;
}

pub ties_are_like : TiesAreLike
ties_are_like before after other shown left e a like ties m agrees =
    let f = ties m agrees in
    record {
      step = f.step;
      agrees = like_agrees (successor m before.worker e a) after other left
          like f.agrees;
    }

pub tied_calls_are_steps : TiedCallsAreSteps
tied_calls_are_steps m before after shown left e a ties agrees =
    let f = ties m agrees in (successor m before.worker e a, f.step, f.agrees)

-- A state that agrees refuses what the view and the word refuse.
use Rattle.std.proofs.Common.{◌≡◌, ℕ, inl, inr, Bool, true, false, not, ◌&&◌, ◌∷◌, []}
use Rattle.std.proofs.Common.{if◌then◌else◌, length, Option, Some, None, refl, ap, ◌∙◌, is_some}
use Rattle.std.proofs.Common.{max, nat_lt}
use Rattle.std.proofs.lemmas.Bool.{cases_Bool}
use Rattle.hg_place.specs.declared.Right.{Right}
use Rattle.hg_place.specs.declared.Handle.{Handle}
use Rattle.hg_place.specs.Places.{number_of, segment_of}
use Rattle.hg_machine.specs.declared.Answer.{Answer}
use Rattle.hg_machine.specs.declared.Rule.{Rule}
use Rattle.hg_machine.specs.declared.AllocVerdict.{AllocVerdict}
use Rattle.hg_machine.specs.Life.{contents_of}
use Rattle.hg_machine.specs.State.{State, record_at, hand_of}
use Rattle.hg_machine.specs.Holders.{holds}
use Rattle.hg_machine.specs.Charge.{charge}
use Rattle.hg_machine.specs.Denial.{denial_on}
use Rattle.hg_machine.specs.Request.{words_for, alloc_verdict}
use Rattle.hg_machine.specs.Refusal.{reach_refusal, denial_or, alloc_refusal}
use Rattle.hg_agreement.specs.Views.{View, Shown, slot_shown}
use Rattle.hg_agreement.specs.Agreement.{Agrees}
use Rattle.hg_agreement.specs.Seen.{IsShownAt, reach_in, alloc_in, charge_in}
use Rattle.hg_agreement.specs.Ties.{RefusalsAgree}
use Rattle.hg_agreement.proofs.Sees.{same_denial, same_look, segment_is}
use Rattle.hg_agreement.proofs.Rooms.{same_charge, same_some_room}
use Rattle.hg_place.specs.declared.Right.TheVariants as right
use Rattle.hg_machine.specs.declared.Event.TheVariants as event
use Rattle.hg_machine.specs.declared.Answer.TheVariants as answer
use Rattle.hg_machine.specs.declared.AllocVerdict.TheVariants as alloc

abbrev reach_by : Option Rule → Bool → ℕ → ℕ → Option Answer
reach_by denied held size index =
    denial_or denied ((not held, answer.Elsewhere) ∷ (not (nat_lt index size), answer.OutOfBlock)
    ∷ [])

unheld : (o : Option Rule) (b : Bool) (size other index : ℕ) → b ≡ false
    → reach_by o b size index ≡ reach_by o b other index
unheld (Some r) b size other index e = refl
unheld None true size other index e = absurd (cc)
unheld None false size other index e = refl

same_reach : (m : State) (view : View) (shown : Option Shown) (actor : ℕ) (right : Right)
    (handle : Handle) (index : ℕ) → Agrees m view shown → IsShownAt view handle.place shown
    → reach_refusal m view.worker actor right handle index ≡ reach_in view (slot_shown shown) actor
    right handle index
same_reach m view shown actor right handle index agrees at =
    let p = number_of handle.place in
    let segment = handle.place.segment in
    let here : segment_of p ≡ segment = segment_is handle.place in
    let size = length (contents_of (record_at m p).life) in
    let o = denial_on view.policy actor right segment handle.generation (slot_shown shown) in
    ap (λ d. reach_by d (holds m view.worker segment) size index)
    (same_denial m view shown actor right handle.place handle.generation agrees at)
    ∙ ap (λ b. reach_by o b size index) (agrees.holding segment)
    ∙ elim (cases_Bool (view.holds segment)) [
      | inl h ↦ ap (λ ws. reach_by o (view.holds segment) (length ws) index)
          (agrees.blocks p (ap view.holds here ∙ h))
      | inr f ↦ unheld o (view.holds segment) size (length (view.block p)) index f
    ]

same_alloc : (m : State) (view : View) (shown : Option Shown) (arena : ℕ) (v : AllocVerdict)
    → Agrees m view shown → alloc_refusal m view.worker arena v ≡ alloc_in view arena v
same_alloc m view shown arena (alloc.Denied r) agrees = refl
same_alloc m view shown arena alloc.TooLarge agrees = refl
same_alloc m view shown arena (alloc.Fits size) agrees =
    ap (λ b. if b then None else Some answer.NoRoom) (same_some_room m view shown arena size agrees)

pub refusals_agree : RefusalsAgree
refusals_agree m view shown (event.Alloc actor arena bytes) agrees at =
    ap (λ p. alloc_refusal m view.worker arena (alloc_verdict p actor.0 arena (words_for bytes)
    (charge m view.worker actor.0))) agrees.policy
    ∙ ap (λ c. alloc_refusal m view.worker arena
    (alloc_verdict view.policy actor.0 arena (words_for bytes) c))
    (same_charge m view shown actor.0 agrees)
    ∙ same_alloc m view shown arena (alloc_verdict view.policy actor.0 arena (words_for bytes)
    (charge_in view actor.0)) agrees
refusals_agree m view shown (event.Free actor handle) agrees at =
    let segment = handle.place.segment in
    let o = denial_on view.policy actor.0 right.Free segment handle.generation (slot_shown shown) in
    ap (λ d. denial_or d
    ((not (holds m view.worker segment) && is_some (hand_of m view.worker), answer.Busy) ∷ []))
    (same_denial m view shown actor.0 right.Free handle.place handle.generation agrees at)
    ∙ ap (λ b. denial_or o ((not b && is_some (hand_of m view.worker), answer.Busy) ∷ []))
    (agrees.holding segment)
    ∙ ap (λ h. denial_or o ((not (view.holds segment) && is_some h, answer.Busy) ∷ [])) agrees.hand
refusals_agree m view shown event.Deliver agrees at = absurd at
refusals_agree m view shown (event.Take segment) agrees at = absurd at
refusals_agree m view shown event.Collect agrees at = refl
refusals_agree m view shown (event.Read actor handle index) agrees at =
    same_reach m view shown actor.0 right.Read handle index agrees at
refusals_agree m view shown (event.Write actor handle index value) agrees at =
    same_reach m view shown actor.0 right.Write handle index agrees at
refusals_agree m view shown (event.Look actor place) agrees at =
    ap (λ d. denial_or d ((not (holds m view.worker place.segment), answer.Elsewhere) ∷ []))
    (same_look m view shown actor.0 right.List place agrees at)
    ∙ ap (λ b. denial_or (denial_on view.policy actor.0 right.List place.segment
    (max 1 (slot_shown shown).generation) (slot_shown shown)) ((not b, answer.Elsewhere) ∷ []))
    (agrees.holding place.segment)
refusals_agree m view shown (event.Abandon segment) agrees at = absurd at
refusals_agree m view shown (event.Refill arena) agrees at = absurd at

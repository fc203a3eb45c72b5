-- A place goes from a worker's hand to the remote list of its segment.
use Rattle.std.proofs.Common.{◌≡◌, ℕ, ◌+◌, ◌*◌, ◌%◌, ◌<◌, true, false, ◌∷◌, [], length, is_none}
use Rattle.std.proofs.Common.{slice_set, Some, None, refl, sym, ap, ◌∙◌, arith, inl, inr, subst}
use Rattle.std.proofs.lemmas.Bool.{cases_lt}
use Rattle.std.proofs.lemmas.List.{length-map, map-set}
use Rattle.hg_lists.specs.Inserts.{Inserts}
use Rattle.hg_lists.specs.Repeats.{HasNoRepeats}
use Rattle.hg_lists.proofs.RepeatsLemmas.{in_contains, count_by-in}
use Rattle.hg_place.specs.declared.Place.{Place}
use Rattle.hg_place.specs.Places.{number_of, segment_of}
use Rattle.hg_remote.specs.Remote.{contents, slot}
use Rattle.hg_machine.specs.First.{first_of}
use Rattle.hg_machine.specs.Life.{is_parted}
use Rattle.hg_machine.specs.Lists.{times, sent_in}
use Rattle.hg_machine.specs.Refusal.{refusal}
use Rattle.hg_machine.specs.Steps.{Step}
use Rattle.hg_machine.proofs.Answered.{of_some}
use Rattle.hg_machine.proofs.Listed.{bit_true}
use Rattle.hg_agreement.specs.Parts.{Parts, remote_at, state_of, lists_of}
use Rattle.hg_agreement.proofs.HeapMoves.{deliver_is_step}
use Rattle.hg_parts.specs.Accounted.{is_out}
use Rattle.hg_parts.specs.Remotes.{with_remote}
use Rattle.hg_parts.specs.Rights.{list_of, remote_from}
use Rattle.hg_parts.specs.Tidy.{IsTidy}
use Rattle.hg_parts.proofs.Records.{record_past}
use Rattle.hg_parts.proofs.Remotes.{delivered as delivered_tidy}
use Rattle.hg_parts.proofs.Sent.{sent_is}
use Rattle.hg_parts.proofs.Times.{hand_counts, bit_small}
use Rattle.hg_events.specs.Core.{Core, parts_of}
use Rattle.hg_events.specs.Delivered.{IsInHand, delivered, remote_of, HandIsUnsent, DeliverIsServed}
use Rattle.hg_events.specs.Delivered.{DeliverIsRefused}
use Rattle.hg_events.proofs.Told.{remote_told}
use Rattle.hg_machine.specs.declared.Event.TheVariants as event
use Rattle.hg_machine.specs.declared.Answer.TheVariants as answer

-- a place by its segment and its number there
number_is : (place : Place)
    → number_of place ≡ place.segment * 8192 + slot place.page place.index
number_is place = omega arith

slot_small : (place : Place) → slot place.page place.index < 8192
slot_small place = let a = place.page_below in let b = place.index_below in omega (arith, a, b)

module _ (core : Core) (worker : ℕ) (place : Place) (t : IsTidy (parts_of core))
    (in_hand : IsInHand core worker place) where
  abbrev parts : Parts
  parts = parts_of core

  abbrev q : ℕ
  q = number_of place

  abbrev at : ℕ
  at = slot place.page place.index

  -- it is out, and so of one of the policy's segments
  out : is_out parts q ≡ true
  out = bit_true (is_out parts q)
      (omega (arith, t.out_once q, hand_counts parts.hands worker q in_hand))

  inside : place.segment < length parts.policy.segments
  inside = elim (cases_lt q (length parts.policy.segments * 8192)) [
    | inl lt ↦ omega (arith, lt, number_is place)
    | inr ge ↦ absurd (let no : is_out parts q ≡ false =
        ap (λ r. is_parted r.life) (record_past parts t.segments q ge) in let bad : true ≡ false =
        sym out ∙ no in cc)
  ]

  here : segment_of q ≡ place.segment
  here = let a = slot_small place in let b = number_is place in omega (arith, a, b)

  within : q % 8192 ≡ at
  within = let a = slot_small place in let b = number_is place in omega (arith, a, b)

  -- its segment's remote list doesn't have it as well
  none_sent : times at (contents (remote_of core place.segment)) ≡ 0
  none_sent =
      let sent : times q (sent_in (lists_of parts) (segment_of q)) ≡ times at
      (contents (remote_of core place.segment)) =
      ap (λ (n : ℕ). times q (sent_in (lists_of parts) n)) here
      ∙ sent_is parts t.remotes place.segment q inside here
      ∙ ap (λ (k : ℕ). times k (contents (list_of (remote_at parts place.segment)))) within
      ∙ ap (λ r. times at (contents r)) (remote_told core place.segment) in
      omega (
        arith,
        sent,
        t.out_once q,
        hand_counts parts.hands worker q in_hand,
        bit_small (is_out parts q),
      )

  inside_remotes : place.segment < length core.remotes
  inside_remotes = omega (arith, inside, t.segments.remotes, length-map core.remotes remote_from)

pub hand_is_unsent : HandIsUnsent
hand_is_unsent core worker place t in_hand = record {
  inside = inside_remotes core worker place t in_hand;
  unsent = λ c.
      let rs = contents (remote_of core place.segment) in
      let right = t.remotes place.segment (inside core worker place t in_hand) in
      let one = count_by-in (slot place.page place.index) rs
      (subst (λ r. HasNoRepeats (contents r)) (remote_told core place.segment) right.once)
      (in_contains (slot place.page place.index) rs c) in
      omega (arith, one, none_sent core worker place t in_hand);
}

pub deliver_is_served : DeliverIsServed
deliver_is_served core worker place remote t in_hand more right =
    let parts = parts_of core in
    let n = place.segment in
    let emptied : Parts = record parts { hands = slice_set core.hands worker None } in
    let new_is : parts_of (delivered core worker place remote) ≡ with_remote emptied n remote =
    ap (λ rs. record emptied { remotes = rs }) (map-set remote_from core.remotes n remote) in (
      subst (λ p. Step (state_of parts) worker event.Deliver answer.Done (state_of p))
          (sym new_is)
          (deliver_is_step parts worker (number_of place)
          (slice_set parts.remotes n (remote_from remote)) in_hand),
      subst IsTidy (sym new_is)
          (delivered_tidy parts worker n (slot place.page place.index) remote t (slot_small place)
          (in_hand ∙ ap Some (number_is place)) right
          (subst
          (λ r. Inserts (slot place.page place.index) (contents r) (contents remote))
          (sym (remote_told core n)) more)),
    )

pub deliver_is_refused : DeliverIsRefused
deliver_is_refused core worker none =
    let s = state_of (parts_of core) in
    of_some (refusal s worker event.Deliver) _
    (λ refused. (answer.NothingInHand ≡ refused) × (s ≡ s))
    answer.NothingInHand
    (ap (λ o. first_of ((is_none o, answer.NothingInHand) ∷ [])) none)
    (refl, refl)

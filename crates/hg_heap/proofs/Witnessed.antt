-- A heap's segments are such as the witness state wants, so that it agrees.
use Rattle.std.proofs.Common.{◌≡◌, ℕ, ◌%◌, ◌<◌, ◌≤◌, inl, inr, true, List, map, length}
use Rattle.std.proofs.Common.{Option, Some, None, option_map, is_some, sym, ap, subst, ◌∙◌}
use Rattle.std.proofs.Common.{arith}
use Rattle.std.proofs.lemmas.Bool.{cases_lt, true≢false}
use Rattle.std.proofs.lemmas.List.{get_or_past}
use Rattle.std.proofs.lemmas.Option.{slice_get_within}
use Rattle.hg_place.specs.declared.Place.{Place}
use Rattle.hg_place.specs.declared.geometry.TheConstants.{SEGMENT_PLACES}
use Rattle.hg_place.specs.declared.standing.Standing.{Standing}
use Rattle.hg_place.specs.declared.standing.Standing.TheVariants.{Home}
use Rattle.hg_place.specs.Lives.{IsSlotWord}
use Rattle.hg_place.specs.Places.{number_of, segment_of}
use Rattle.hg_place.specs.Standings.{standing_at, standing_generation, slot_of, IsSane, Fits}
use Rattle.hg_machine.specs.Policy.{Policy}
use Rattle.hg_segment.specs.Kept.{Kept}
use Rattle.hg_agreement.specs.Views.{View, Shown, IsWordOf}
use Rattle.hg_agreement.specs.Witness.{IsHeapView, IsHandOf, IsFoundBy, witness}
use Rattle.hg_agreement.specs.Usual.{IsHandElsewhere}
use Rattle.hg_agreement.specs.Holdings.{Holding, holding_of, standing_told}
use Rattle.hg_agreement.specs.HoldingLaws.{IsHoldingRight}
use Rattle.hg_agreement.proofs.RightHeaps.{right_holdings_are_heaps}
use Rattle.hg_agreement.proofs.Sees.{segment_is}
use Rattle.hg_agreement.proofs.Usual.{fitting_words_are_found, words_are_usual}
use Rattle.hg_agreement.proofs.Witnesses.{witness_agrees}
use Rattle.hg_heap.specs.Held.{segment_in, is_held}
use Rattle.hg_heap.specs.Ties.{holding, heap_view}
use Rattle.hg_heap.specs.Witnessed.{SettledAreRight, IsOwner, NoTieIsEmpty}
use Rattle.hg_heap.proofs.Founds.{at_is}
use Rattle.hg_heap.proofs.ViewRoom.{holding_in, view_holds, found_one}
use Rattle.hg_heap.proofs.Options.{of_map}

home_is_sane : IsSane (Home 0)
home_is_sane = record {
  given_out = λ e. absurd (true≢false e);
  owner = λ e. absurd (true≢false e);
}

module _ {S : Type 0} (number : S → ℕ) (records : S → List Standing) (shows : S → ℕ → ℕ → Type 0)
    (sized : (s : S) → length (records s) ≡ SEGMENT_PLACES)
    (sane : (s : S) (at : ℕ) → at < SEGMENT_PLACES → IsSane (standing_at (records s) at))
    (fits : (s : S) (at word : ℕ) → at < SEGMENT_PLACES → shows s at word
    → IsSlotWord word × Fits (standing_at (records s) at) word) where
  sane_at : (s : S) (at : ℕ) → IsSane (standing_at (records s) at)
  sane_at s at = elim (cases_lt at SEGMENT_PLACES) as (λ _. IsSane (standing_at (records s) at)) [
    | inl below ↦ sane s at below
    | inr past ↦ subst IsSane
        (sym (get_or_past (records s) at (Home 0) (let all = sized s in omega arith))) home_is_sane
  ]

  pub settled_are_right : SettledAreRight number records shows
  settled_are_right policy k of s = record {
    number = slice_get_within policy.segments (number k.slots) k.arena of.0;
    sizes = s.sizes;
    runs = s.runs;
    whole = s.words;
    bounded = λ at.
        subst (λ (most : ℕ). standing_generation (standing_at (records k.slots) at) ≤ most) of.1
        (s.bounded at);
    given_out = λ at. (sane_at k.slots at).given_out;
    placed = s.opened;
  }

  module _ (policy : Policy) (worker : ℕ) (hand : Option ℕ) (generation : ℕ)
      (segments : List (Kept S))
      (owner : IsOwner number records shows policy worker hand generation segments) where
    abbrev view : View
    view = heap_view number records policy worker hand generation segments

    holds_is : (segment : ℕ) → view.holds segment ≡ is_held number segments segment
    holds_is = view_holds number records segments

    are_right : (segment : ℕ) (h : Holding)
        → holding_of (map (holding number records) segments) segment ≡ Some h
        → IsHoldingRight policy h
    are_right segment h e =
        let m = of_map (holding number records) (segment_in number segments segment) h
        (sym (holding_in number records segments segment) ∙ e) in
        let one = (found_one number records segments segment m.0 m.1).0 in
        subst (IsHoldingRight policy) m.2
        (settled_are_right policy m.0 (owner.are_of.arena m.0 one, owner.are_of.greatest m.0 one)
        (owner.settled m.0 one))

    heap : IsHeapView view
    heap =
        right_holdings_are_heaps policy worker hand generation
        (map (holding number records) segments) owner.policy_sound owner.below are_right

    hand_is : IsHandOf view
    hand_is = record { within = owner.within; given_out = owner.given_out }

    elsewhere : IsHandElsewhere view
    elsewhere = record {
      generation = owner.greatest;
      unheld = λ place e. holds_is (segment_of place) ∙ owner.unheld place e;
    }

    module _ (place : Place) (k : Kept S) (word : ℕ)
        (at : segment_in number segments place.segment ≡ Some k)
        (shown : shows k.slots (slot_of place) word) where
      abbrev one : Shown
      one = record { place = number_of place; word = word }

      is_there : view.holds place.segment ≡ true
      is_there = holds_is place.segment ∙ ap is_some at

      fitting : IsSlotWord word × Fits (standing_at (records k.slots) (slot_of place)) word
      fitting = fits k.slots (slot_of place) word
          (let a = place.page_below in let b = place.index_below in omega arith) shown

      stands : view.standing (number_of place) ≡ standing_at (records k.slots) (slot_of place)
      stands =
          ap (λ n. standing_told (holding_of (map (holding number records) segments) n)
          (number_of place % 8192)) (segment_is place)
          ∙ ap (λ o. standing_told o (number_of place % 8192))
          (holding_in number records segments place.segment
          ∙ ap (option_map (holding number records)) at)
          ∙ ap (standing_at (records k.slots)) (at_is place)

      found : IsFoundBy view one
      found =
          fitting_words_are_found view place word 0 (omega arith)
          (heap.segments place.segment is_there) fitting.0
          (λ h. subst (λ (s : Standing). IsWordOf s word) (sym stands) fitting)
          (λ e. absurd (true≢false (sym is_there ∙ sym (ap view.holds (segment_is place))
          ∙ elsewhere.unheld (number_of place) e)))

      held : view.holds (segment_of (number_of place)) ≡ true
      held = ap view.holds (segment_is place) ∙ is_there

  pub no_tie_is_empty : NoTieIsEmpty number records shows
  no_tie_is_empty = record {
    unshown = λ policy worker hand generation segments owner.
        let h = heap policy worker hand generation segments owner in
        let away = elsewhere policy worker hand generation segments owner in
        let v = heap_view number records policy worker hand generation segments in (
          witness v None,
          witness_agrees v None h (hand_is policy worker hand generation segments owner) tt
              (words_are_usual.unshown v away),
        );
    shown = λ policy worker hand generation word segments place k owner at shown.
        let h = heap policy worker hand generation segments owner in
        let away = elsewhere policy worker hand generation segments owner in
        let v = heap_view number records policy worker hand generation segments in
        let s : Shown = record { place = number_of place; word = word } in
        let f = found policy worker hand generation segments owner place k word at shown in (
          witness v (Some s),
          witness_agrees v (Some s) h (hand_is policy worker hand generation segments owner) f
              (words_are_usual.held v s h away f
              (held policy worker hand generation segments owner place k word at shown)),
        );
  }

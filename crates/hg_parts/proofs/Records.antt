-- The records and classes for which parts stand.
use Rattle.std.proofs.Common.{◌≡◌, ℕ, ◌+◌, ◌*◌, ◌/◌, ◌%◌, ◌<◌, ◌≤◌, Bool, true, false, not, nat_lt}
use Rattle.std.proofs.Common.{List, length, slice_index_or, refl, sym, ap, ◌∙◌, arith, subst, inl}
use Rattle.std.proofs.Common.{inr}
use Rattle.std.specs.Prelude.{Option, Some, None}
use Rattle.std.proofs.lemmas.Bool.{cases_lt}
use Rattle.std.proofs.lemmas.Bool.Decides.{nat_tests}
use Rattle.std.proofs.lemmas.List.{get_or_past}
use Rattle.std.proofs.lemmas.List.Elements.{recursion_from_All}
use Rattle.std.proofs.lemmas.List.FromFn.{length-map-range_with_len}
use Rattle.hg_size.specs.Sizes.{pages_of, places_of}
use Rattle.hg_place.specs.declared.standing.Standing.{Standing}
use Rattle.hg_place.specs.declared.standing.Standing.TheVariants.{Home, Open}
use Rattle.hg_place.specs.Words.{bit_of}
use Rattle.hg_place.specs.Places.{segment_of, segment_of_page, page_of, index_of}
use Rattle.hg_place.specs.Slots.{slot_in}
use Rattle.hg_place.specs.Standings.{standing_at, standing_generation, is_home}
use Rattle.hg_segment.specs.Blocks.{block_of_class}
use Rattle.hg_segment.specs.Right.{IsBlockPlace}
use Rattle.hg_machine.specs.Life.{never_used}
use Rattle.hg_machine.specs.State.{record_at, class_at}
use Rattle.hg_machine.specs.Soundness.{IsSoundRecord}
use Rattle.hg_agreement.specs.Witness.{held_life}
use Rattle.hg_agreement.specs.Holdings.{block_by, block_of, class_of}
use Rattle.hg_agreement.specs.Parts.{Plain, Parts, plain_of, record_by, class_by, record_of}
use Rattle.hg_agreement.specs.Parts.{page_class, state_of}
use Rattle.hg_agreement.proofs.RightHeaps.{sized, within}
use Rattle.hg_agreement.proofs.Told.{record_is, class_is}
use Rattle.hg_parts.specs.Rights.{segments_in, found_in, is_numbered, IsSegmentRight}
use Rattle.hg_parts.specs.Rights.{AreSegmentsRight}
use Rattle.hg_parts.proofs.Founds.{found_each, found_some}
use Rattle.hg_parts.proofs.Flat.{E, plain_in, plain_is}

-- a record that is sound
open_step : (b : Bool) (g o max index : ℕ) (words : List ℕ) (class : Option ℕ) → g ≤ max → 1 ≤ g
    → class ≡ Some (length words) → index < places_of (length words)
    → IsSoundRecord max class index (record { generation = g; life = held_life b (Open g o) words })
open_step true g o max index words class low some is below =
    record { generation = low; given_out = λ _. some; same_class = λ _. is; below = λ _. below }
open_step false g o max index words class low some is below =
    record { generation = low; given_out = λ _. some; same_class = λ _. is; below = λ _. below }

sound_of : (b : Bool) (st : Standing) (max index : ℕ) (words : List ℕ) (class : Option ℕ)
    → standing_generation st ≤ max → (is_home st ≡ false → 1 ≤ standing_generation st)
    → (is_home st ≡ false → (class ≡ Some (length words)) × (index < places_of (length words)))
    → IsSoundRecord max class index
    (record { generation = standing_generation st; life = held_life b st words })
sound_of b (Home g) max index words class low out f =
    record {
      generation = low;
      given_out = λ e. absurd (cc);
      same_class = λ e. absurd (cc);
      below =
          λ e. absurd (cc);
    }
sound_of b (Open g o) max index words class low out f =
    open_step b g o max index words class low (out refl) (f refl).0 (f refl).1

-- its words are as many as its class says
block_class : (st : Standing) (ws : List ℕ) (page index : ℕ) (class : Option ℕ) → is_home st ≡ false
    → length ws ≡ 8192 → ((n : ℕ) → class ≡ Some n → page + pages_of n ≤ 16)
    → IsBlockPlace class index
    → (class ≡ Some (length (block_by st (block_of_class ws page index class))))
    × (index < places_of (length (block_by st (block_of_class ws page index class))))
block_class (Home g) ws page index class away whole low on = absurd (cc)
block_class (Open g o) ws page index class away whole low on =
    (sized ws page index class whole low on, within ws page index class whole low on)

module _ (parts : Parts) (h : AreSegmentsRight parts) where
  pub found : (n : ℕ) → n < length parts.policy.segments → (e : E) × (found_in parts n ≡ Some e)
  found n lt =
      found_some (is_numbered n) (segments_in parts)
      (h.once n ∙ ap bit_of (let t : nat_lt n (length parts.policy.segments) ≡ true =
      grind (arith, nat_tests) in t))

  pub right : (n : ℕ) (e : E) → found_in parts n ≡ Some e → IsSegmentRight parts.policy e.1
  right n e is =
      found_each (λ x. IsSegmentRight parts.policy x.1) (is_numbered n) (segments_in parts) e
      (recursion_from_All (λ x. IsSegmentRight parts.policy x.1) (segments_in parts) h.each) is

  pub plain_found : (n : ℕ) (e : E) → found_in parts n ≡ Some e → plain_of parts n ≡ Some e.1
  plain_found n e is = plain_is parts n ∙ ap plain_in is

  pub record_here : (place : ℕ) (e : E) → place < length parts.policy.segments * 8192
      → found_in parts (segment_of place) ≡ Some e → record_at (state_of parts) place
      ≡ record_by (Some e.1) (place % 8192)
  record_here place e lt is =
      record_is parts place lt ∙ ap (λ (o : Option Plain). record_by o (place % 8192))
      (plain_found (segment_of place) e is)

  pub record_past : (place : ℕ) → length parts.policy.segments * 8192 ≤ place
      → record_at (state_of parts) place ≡ never_used
  record_past place ge =
      get_or_past (state_of parts).records place never_used
      (omega (
        arith,
        ge,
        length-map-range_with_len (record_of parts) 0
            (length parts.policy.segments * 8192),
      ))

  pub class_here : (page : ℕ) (e : E) → page < length parts.policy.segments * 16
      → found_in parts (segment_of_page page) ≡ Some e → class_at (state_of parts) page
      ≡ class_of e.1.holding (page % 16)
  class_here page e lt is =
      class_is parts page lt ∙ ap (λ (o : Option Plain). class_by o (page % 16))
      (plain_found (segment_of_page page) e is)

  pub class_past : (page : ℕ) → length parts.policy.segments * 16 ≤ page → class_at (state_of parts)
      page ≡ None
  class_past page ge =
      get_or_past (state_of parts).classes page None
      (omega (
        arith,
        ge,
        length-map-range_with_len (page_class parts) 0
            (length parts.policy.segments * 16),
      ))

  -- the record of each place is sound
  own_block : (one : Plain) → IsSegmentRight parts.policy one → (at : ℕ) → at < 8192
      → IsSoundRecord parts.policy.max_generation (class_of one.holding (at / 512)) (at % 512)
      (record_by (Some one) at)
  own_block one r at low =
      let st = standing_at one.holding.standings at in
      let at-is : at / 512 * 512 + at % 512 ≡ at = omega arith in
      sound_of (not (slot_in (slice_index_or one.slots at 0)).live) st parts.policy.max_generation
      (at % 512) (block_of one.holding at) (class_of one.holding (at / 512))
      (r.holding.bounded at) (r.holding.given_out at)
      (λ away. block_class st one.holding.words (at / 512) (at % 512)
      (class_of one.holding (at / 512)) away r.holding.whole
      (λ n e. let fit = (r.holding.runs (at / 512)).inside n e in omega (arith, fit, low))
      (r.holding.placed (at / 512) (at % 512) (omega (arith, low)) (omega arith)
      (subst (λ (k : ℕ). is_home (standing_at one.holding.standings k) ≡ false) (sym at-is) away)))

  pub block : (place : ℕ) → IsSoundRecord parts.policy.max_generation
      (class_at (state_of parts) (page_of place)) (index_of place)
      (record_at (state_of parts) place)
  block place = elim (cases_lt place (length parts.policy.segments * 8192)) [
    | inl lt ↦ (let f = found (segment_of place) (omega (arith, lt)) in
        let one = f.0.1 in
        let at = place % 8192 in
        let page-is : page_of place % 16 ≡ at / 512 = omega arith in
        let index-is : at % 512 ≡ index_of place = omega arith in
        let same : segment_of_page (page_of place) ≡ segment_of place = omega arith in
        let class : class_at (state_of parts) (page_of place) ≡ class_of one.holding (at / 512) =
        class_here (page_of place) f.0 (omega (arith, lt)) (ap (found_in parts) same ∙ f.1)
        ∙ ap (class_of one.holding) page-is in
        let here = own_block one (right (segment_of place) f.0 f.1) at (omega arith) in
        subst (λ x. IsSoundRecord parts.policy.max_generation
        (class_at (state_of parts) (page_of place)) (index_of place) x)
        (sym (record_here place f.0 lt f.1))
        (subst (λ (c : Option ℕ). IsSoundRecord parts.policy.max_generation c (index_of place)
        (record_by (Some one) at)) (sym class)
        (subst (λ (i : ℕ). IsSoundRecord parts.policy.max_generation
        (class_of one.holding (at / 512)) i (record_by (Some one) at)) index-is here)))
    | inr ge ↦ subst (λ x. IsSoundRecord parts.policy.max_generation
        (class_at (state_of parts) (page_of place)) (index_of place) x) (sym (record_past place ge))
        (record {
          generation = omega arith;
          given_out = λ e. absurd (cc);
          same_class =
              λ e. absurd (cc);
          below = λ e. absurd (cc);
        })
  ]

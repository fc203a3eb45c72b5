-- What a worker with right segments has.
use Rattle.std.proofs.Common.{refl, ◌≡◌, ℕ, ◌+◌, ◌*◌, ◌/◌, ◌%◌, ◌==◌, ◌<◌, ◌≤◌, inl, inr, true}
use Rattle.std.proofs.Common.{false, cond, ◌∷◌, [], List, length, Option, Some, None, sym, ap}
use Rattle.std.proofs.Common.{subst, ◌∙◌, arith, is_some}
use Rattle.std.proofs.lemmas.Bool.{cases_Bool, eqb-true, true≢false}
use Rattle.hg_size.specs.Sizes.{places_of, pages_of}
use Rattle.hg_place.specs.Places.{segment_of, segment_of_page, page_of, index_of}
use Rattle.hg_place.specs.Standings.{standing_at, standing_generation, is_home}
use Rattle.hg_words.proofs.Ranges.{length-block_of}
use Rattle.hg_segment.specs.Blocks.{block_at, block_of_class}
use Rattle.hg_segment.specs.Right.{IsBlockPlace}
use Rattle.hg_size.proofs.Table.{fits_in_pages}
use Rattle.hg_size.proofs.Within.{run_within}
use Rattle.hg_machine.specs.Policy.{Policy}
use Rattle.hg_agreement.specs.Holdings.{Holding, block_of, class_of, holding_of, has, class_told}
use Rattle.hg_agreement.specs.Holdings.{standing_told, block_told}
use Rattle.hg_agreement.specs.HoldingLaws.{IsHoldingRight, RightHoldingsAreHeaps}
use Rattle.hg_agreement.proofs.Blocks.{block_home, block_out}

-- the segment of a number, where it is among these
there : (holdings : List Holding) (segment : ℕ) → has holdings segment ≡ true
    → (h : Holding) × (holding_of holdings segment ≡ Some h) × (h.number ≡ segment)
there [] segment e = absurd (true≢false (sym e))
there (x ∷ xs) segment e = elim (cases_Bool (x.number == segment)) [
  | inl t ↦ (
    x,
    ap (λ b. cond b (Some x) (holding_of xs segment)) t,
    eqb-true x.number segment
        t,
  )
  | inr f ↦
      let miss = ap (λ b. cond b (Some x) (holding_of xs segment)) f in
      let rest = there xs segment (sym (ap is_some miss) ∙ e) in
      (rest.0, miss ∙ rest.1, rest.2)
]

-- a block at a block place has the length of its page's class
pub sized : (words : List ℕ) (page index : ℕ) (class : Option ℕ) → length words ≡ 8192
    → ((n : ℕ) → class ≡ Some n → page + pages_of n ≤ 16)
    → IsBlockPlace class index → class ≡ Some (length (block_of_class words page index class))
sized words page index None whole low on = absurd on
sized words page index (Some n) whole low on =
    ap Some (sym (length-block_of words (page * 512 + n * index) n
    (omega (arith, fits_in_pages n index on, low n refl, whole))))

-- and its index is below the number of its page's places
pub within : (words : List ℕ) (page index : ℕ) (class : Option ℕ) → length words ≡ 8192
    → ((n : ℕ) → class ≡ Some n → page + pages_of n ≤ 16)
    → IsBlockPlace class index
    → index < places_of (length (block_of_class words page index class))
within words page index None whole low on = absurd on
within words page index (Some n) whole low on =
    subst (λ k. index < places_of k) (sym (length-block_of words (page * 512 + n * index) n
    (omega (arith, fits_in_pages n index on, low n refl, whole)))) on

module _ (policy : Policy) (holdings : List Holding)
    (right : (segment : ℕ) (h : Holding) → holding_of holdings segment ≡ Some h
    → IsHoldingRight policy h) where
  -- what is told of an open place
  pub record IsPlaced (place : ℕ) (h : Holding) : Type 0 where
    pub found : holding_of holdings (segment_of place) ≡ Some h
    pub words : block_of h (place % 8192) ≡ block_at h.words h.classes (place % 8192 / 512)
        (index_of place)
    pub on : IsBlockPlace (class_of h (place % 8192 / 512)) (index_of place)

  placed : (place : ℕ) (h : Holding) → holding_of holdings (segment_of place) ≡ Some h
      → is_home (standing_at h.standings (place % 8192)) ≡ false → IsPlaced place h
  placed place h is out =
      let at = place % 8192 in
      let inside : at % 512 ≡ index_of place = omega arith in
      let split : at / 512 * 512 + at % 512 ≡ at = omega arith in
      record {
        found = is;
        words =
            block_out (standing_at h.standings at)
            (block_at h.words h.classes (at / 512) (at % 512)) out
            ∙ ap (block_at h.words h.classes (at / 512)) inside;
        on = subst (IsBlockPlace (class_of h (at / 512))) inside
            ((right (segment_of place) h is).placed (at / 512) (at % 512) (omega arith)
            (omega arith)
            (ap (λ n. is_home (standing_at h.standings n)) split ∙ out));
      }

pub right_holdings_are_heaps : RightHoldingsAreHeaps
right_holdings_are_heaps policy worker hand generation holdings sound below right = record {
  policy = sound;
  worker = below;
  segments = λ segment e.
      let t = there holdings segment e in
      subst (λ n. n < length policy.segments) t.2 (right segment t.0 t.1).number;
  classes = λ page size e is.
      let t = there holdings (segment_of_page page) e in
      (right (segment_of_page page) t.0 t.1).sizes (page % 16) size
      (sym (ap (λ o. class_told o (page % 16)) t.1) ∙ is);
  runs = λ page e.
      let t = there holdings (segment_of_page page) e in
      run_within (class_of t.0) _ page
      (λ q same. ap (λ s. class_told (holding_of holdings s) (q % 16)) same
      ∙ ap (λ o. class_told o (q % 16)) t.1)
      ((right (segment_of_page page) t.0 t.1).runs (page % 16));
  generations = λ place e.
      let t = there holdings (segment_of place) e in
      subst (λ o. standing_generation (standing_told o (place % 8192)) ≤ policy.max_generation)
      (sym t.1) ((right (segment_of place) t.0 t.1).bounded (place % 8192));
  given_out = λ place e out.
      let t = there holdings (segment_of place) e in
      subst (λ o. 1 ≤ standing_generation (standing_told o (place % 8192))) (sym t.1)
      ((right (segment_of place) t.0 t.1).given_out (place % 8192)
      (sym (ap (λ o. is_home (standing_told o (place % 8192))) t.1) ∙ out));
  sized = λ place e out.
      let t = there holdings (segment_of place) e in
      let h = t.0 in
      let at = place % 8192 in
      let is = (right (segment_of place) h t.1) in
      let p = placed policy holdings right place h t.1
      (sym (ap (λ o. is_home (standing_told o at)) t.1) ∙ out) in
      let on_page : page_of place % 16 ≡ at / 512 = omega arith in
      let same : segment_of_page (page_of place) ≡ segment_of place = omega arith in
      ap (λ s. class_told (holding_of holdings s) (page_of place % 16)) same
      ∙ ap (λ o. class_told o (page_of place % 16)) t.1
      ∙ ap (class_of h) on_page
      ∙ sized h.words (at / 512) (index_of place) (class_of h (at / 512)) is.whole
      (λ n e. let fit = (is.runs (at / 512)).inside n e in omega arith) p.on
      ∙ ap (λ ws. Some (length ws)) (sym p.words)
      ∙ ap (λ o. Some (length (block_told o at))) (sym t.1);
  below = λ place e out.
      let t = there holdings (segment_of place) e in
      let h = t.0 in
      let at = place % 8192 in
      let is = (right (segment_of place) h t.1) in
      let p = placed policy holdings right place h t.1
      (sym (ap (λ o. is_home (standing_told o at)) t.1) ∙ out) in
      subst (λ ws. index_of place < places_of (length ws))
      (sym p.words ∙ ap (λ o. block_told o at) (sym t.1))
      (within h.words (at / 512) (index_of place) (class_of h (at / 512)) is.whole
      (λ n e. let fit = (is.runs (at / 512)).inside n e in omega arith) p.on);
  empty = λ place e home.
      let t = there holdings (segment_of place) e in
      let h = t.0 in
      let at = place % 8192 in
      ap (λ o. block_told o at) t.1
      ∙ block_home (standing_at h.standings at)
      (block_at h.words h.classes (at / 512) (at % 512))
      (sym (ap (λ o. is_home (standing_told o at)) t.1) ∙ home);
}

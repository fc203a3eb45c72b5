-- A change of one place of a held segment, in a worker's view.
use Rattle.std.proofs.Common.{◌≡◌, ℕ, ◌+◌, ◌*◌, ◌/◌, ◌%◌, ◌==◌, inl, inr, if◌then◌else◌, List}
use Rattle.std.proofs.Common.{Option, Some, refl, sym, ap, ◌∙◌, arith, is_some, slice_get}
use Rattle.std.proofs.Common.{slice_set}
use Rattle.std.proofs.lemmas.Bool.{cases_eq, eq-eqb, ne_eqb}
use Rattle.std.proofs.lemmas.List.Folds.{find_at, find-set, find_past}
use Rattle.std.proofs.lemmas.Option.{slice_get_within, get_or_from_slice_get}
use Rattle.hg_place.specs.Places.{page_of, segment_of, segment_of_page}
use Rattle.hg_place.specs.Standings.{standing_at}
use Rattle.hg_agreement.specs.Holdings.{Holding, block_of, class_of, holding_of, has, class_told}
use Rattle.hg_agreement.specs.Holdings.{standing_told, block_told}
use Rattle.hg_agreement.specs.HeldPut.{IsHeldPut, PutIsLike, PutIsLikePut}
use Rattle.hg_agreement.proofs.Puts.{at_place, off_place}

module _ (holdings : List Holding) (found : ℕ) (one now : Holding) (at : ℕ)
    (is : IsHeldPut holdings found one now at) where
  after : List Holding
  after = slice_set holdings found now

  before_here : holding_of holdings one.number ≡ Some one
  before_here = find_at (λ h. h.number == one.number) holdings
      ∙ ap (slice_get holdings) (sym is.first) ∙ is.there

  after_here : holding_of after one.number ≡ Some now
  unfolding after
  after_here = find-set (λ h. h.number == one.number) holdings found now is.first
      (slice_get_within holdings found one is.there) (eq-eqb now.number one.number is.number)

  after_other : (segment : ℕ) → (segment ≡ one.number → ⊥)
      → holding_of after segment ≡ holding_of holdings segment
  unfolding after
  after_other segment ne = find_past (λ h. h.number == segment) holdings found now one
      (ap (λ h. h.number == segment) (get_or_from_slice_get holdings found one one is.there)
      ∙ ne_eqb one.number segment (λ e. ne (sym e)))
      (ne_eqb now.number segment (λ e. ne (sym e ∙ is.number)))

  -- anything told of a segment
  told_same : {X : Type 0} (f : Option Holding → X) (segment : ℕ)
      → (segment ≡ one.number → f (Some now) ≡ f (Some one)) → f (holding_of after segment) ≡ f
      (holding_of holdings segment)
  told_same {X} f segment same =
      elim (cases_eq segment one.number) [
        | inl e ↦
            ap (λ s. f (holding_of after s)) e
            ∙ ap f after_here
            ∙ same e
            ∙ sym (ap f before_here)
            ∙ sym (ap (λ s. f (holding_of holdings s)) e)
        | inr ne ↦ ap f (after_other segment ne)
      ]

  told_here : {X : Type 0} (f : Option Holding → X) (segment : ℕ) → segment ≡ one.number
      → f (holding_of after segment) ≡ f (Some now)
  told_here {X} f segment e = ap (λ s. f (holding_of after s)) e ∙ ap f after_here

  place : ℕ
  place = one.number * 8192 + at

  pub held_same : (segment : ℕ) → has (slice_set holdings found now) segment ≡ has holdings segment
  unfolding after
  held_same segment = told_same is_some segment (λ e. refl)

  pub standing_is : (q : ℕ)
      → standing_told (holding_of (slice_set holdings found now) (segment_of q)) (q % 8192)
      ≡ (if q == one.number * 8192 + at then standing_at now.standings at else standing_told
      (holding_of holdings (segment_of q)) (q % 8192))
  unfolding after place
  standing_is q =
      elim (cases_eq q place) [
        | inl e ↦
            let b = is.below in
            let m : q % 8192 ≡ at = omega arith in
            told_here (λ o. standing_told o (q % 8192)) (segment_of q) (omega arith)
            ∙ ap (standing_at now.standings) m
            ∙ at_place (λ x. standing_told (holding_of holdings (segment_of x)) (x % 8192))
            (standing_at now.standings at) q place e
        | inr ne ↦
            told_same (λ o. standing_told o (q % 8192)) (segment_of q)
            (λ e. is.standings (q % 8192) (omega arith) (λ f. ne (omega arith)))
            ∙ off_place (λ x. standing_told (holding_of holdings (segment_of x)) (x % 8192))
            (standing_at now.standings at) q place ne
      ]

  pub block_is : (q : ℕ) → block_told (holding_of (slice_set holdings found now) (segment_of q))
      (q % 8192)
      ≡ (if q == one.number * 8192 + at then block_of now at else block_told
      (holding_of holdings (segment_of q)) (q % 8192))
  unfolding after place
  block_is q = elim (cases_eq q place) [
    | inl e ↦
        let b = is.below in
        let m : q % 8192 ≡ at = omega arith in
        told_here (λ o. block_told o (q % 8192)) (segment_of q) (omega arith)
        ∙ ap (block_of now) m
        ∙ at_place (λ x. block_told (holding_of holdings (segment_of x)) (x % 8192))
        (block_of now at) q place e
    | inr ne ↦
        told_same (λ o. block_told o (q % 8192)) (segment_of q)
        (λ e. is.blocks (q % 8192) (omega arith) (λ f. ne (omega arith)))
        ∙ off_place (λ x. block_told (holding_of holdings (segment_of x)) (x % 8192))
        (block_of now at) q place ne
  ]

  page : ℕ
  page = page_of (one.number * 8192 + at)

  page_is : page ≡ one.number * 16 + at / 512
  unfolding page
  page_is = omega arith

  pub class_is : (q : ℕ)
      → class_told (holding_of (slice_set holdings found now) (segment_of_page q)) (q % 16)
      ≡ (if q == page_of (one.number * 8192 + at) then class_of now (at / 512) else class_told
      (holding_of holdings (segment_of_page q)) (q % 16))
  unfolding after page
  class_is q = elim (cases_eq q page) [
    | inl e ↦
        let b = is.below in
        let p = e ∙ page_is in
        let m : q % 16 ≡ at / 512 = omega (arith, p) in
        told_here (λ o. class_told o (q % 16)) (segment_of_page q) (omega (arith, p))
        ∙ ap (class_of now) m
        ∙ at_place (λ x. class_told (holding_of holdings (segment_of_page x)) (x % 16))
        (class_of now (at / 512)) q page e
    | inr ne ↦
        let b = is.below in
        let away : (q ≡ one.number * 16 + at / 512) → ⊥ = λ z. ne (z ∙ sym page_is) in
        told_same (λ o. class_told o (q % 16)) (segment_of_page q)
        (λ e. is.classes (q % 16) (omega arith) (λ f. away (omega arith)))
        ∙ off_place (λ x. class_told (holding_of holdings (segment_of_page x)) (x % 16))
        (class_of now (at / 512)) q page ne
  ]

  pub class_same : class_of now (at / 512) ≡ class_of one (at / 512) → (q : ℕ)
      → class_told (holding_of (slice_set holdings found now) (segment_of_page q)) (q % 16)
      ≡ class_told (holding_of holdings (segment_of_page q)) (q % 16)
  unfolding after
  class_same same q =
      told_same (λ o. class_told o (q % 16)) (segment_of_page q)
      (λ e. elim (cases_eq (q % 16) (at / 512)) [
        | inl f ↦ ap (class_of now) f ∙ same ∙ sym (ap (class_of one) f)
        | inr f ↦ is.classes (q % 16) (omega arith) f
      ])

pub put_is_like : PutIsLike
put_is_like policy worker hand generation holdings found one now at is = record {
  policy = refl;
  worker = refl;
  holding = held_same holdings found one now at is;
  classes = λ q h. class_is holdings found one now at is q;
  standings = λ q h. standing_is holdings found one now at is q;
  blocks = λ q h. block_is holdings found one now at is q;
  hand = refl;
}

pub put_is_like_put : PutIsLikePut
put_is_like_put policy worker hand generation holdings found one now at is same = record {
  policy = refl;
  worker = refl;
  holding = held_same holdings found one now at is;
  classes = λ q h. class_same holdings found one now at is same q;
  standings = λ q h. standing_is holdings found one now at is q;
  blocks = λ q h. block_is holdings found one now at is q;
  hand = refl;
}

-- What the marks of the pages without a class tell, and how they are kept.
use Rattle.std.proofs.Common.{◌≡◌, ◌≢◌, ℕ, ◌+◌, ◌-◌, ◌*◌, ◌/◌, ◌%◌, ◌<◌, ◌≤◌, ◌↔◌, ◌⊎◌, Bool, true, false, not, ◌&&◌, is_none, List, length, slice_set, refl, sym, ap, ◌∙◌, arith, inl, inr, get_or-set_other, get_or-set_same, IsTrue}
use Rattle.std.specs.Prelude.{Option, Some, None}
use Rattle.std.specs.Int.{bit_at}
use Rattle.std.proofs.lemmas.Bool.{cases_lt, cases_eq, cases_Bool, true≢false, false_from_ne_true}
use Rattle.std.proofs.lemmas.List.{length-set}
use Rattle.std.proofs.lemmas.Option.{none-some}
use Rattle.std.proofs.lemmas.Nat.Bits.{bit_at-lt, bit_at_above, bit_at_ones}
use Rattle.hg_mask.specs.Marks.{IsRunOf}
use Rattle.hg_place.specs.Words.{bit_of}
use Rattle.hg_size.specs.Sizes.{pages_of}
use Rattle.hg_size.specs.Runs.{is_blank, is_covered, may_begin, AreRuns}
use Rattle.hg_size.proofs.Covers.{begins, begins_from, blank_is, blank_from, covered_is}
use Rattle.hg_size.proofs.BlankPages.{IsElsewhere, IsOutside, taken_inside, taken_outside, given_up_inside, given_up_outside}
use Rattle.hg_segment.specs.Kept.{class_at}
use Rattle.hg_segment.specs.Marked.{AreMarked}

pub bit_true : (b : Bool) → bit_of b ≡ 1 → b ≡ true
bit_true true e = refl
bit_true false e = absurd (omega (arith, e))

-- what a mark tells
pub mark_told : (marked b : Bool) (bit : ℕ) → (IsTrue marked ↔ (bit ≡ 1)) → bit ≡ bit_of b
    → marked ≡ b
mark_told true b bit h e = sym (bit_true b (sym e ∙ h.0 refl))
mark_told false true bit h e = h.1 e
mark_told false false bit h e = refl

-- a covered page has no class, and isn't marked
pub covered_told : (class : Option ℕ) (covered : Bool) → (covered ≡ true → class ≡ None)
    → (is_none class && not (is_none class && not covered)) ≡ covered
covered_told None true h = refl
covered_told None false h = refl
covered_told (Some n) true h = absurd (none-some n (sym (h refl)))
covered_told (Some n) false h = refl

pub classed_uncovered : (class : ℕ → Option ℕ) (page : ℕ) → AreRuns class → class page ≢ None
    → is_covered class page ≡ false
classed_uncovered class page runs some =
    false_from_ne_true _ (λ t. some ((runs page).covered t))

-- a run of marks is where a block may begin
module _ (classes : List (Option ℕ)) (marks count starts size page : ℕ)
    (m : AreMarked classes marks) (fits : marks < 65536) (many : count ≡ pages_of size)
    (low : page < 16) (runs : (bit_at starts page ≡ 1) ↔ IsRunOf marks count page) where
  below : IsRunOf marks count page → (q : ℕ) → q < page + count → page ≤ q → q < 16
  below run q high from = elim (cases_lt q 16) as (λ _. q < 16) [
    | inl lt ↦ lt
    | inr past ↦
        (let on = run (q - page) (omega arith) in
        let at : page + (q - page) ≡ q = omega arith in
        absurd (omega (arith, sym (ap (bit_at marks) at) ∙ on, bit_at_above marks 16 q fits past)))
  ]

  blank_at : IsRunOf marks count page → (q : ℕ) → page ≤ q → q < page + pages_of size
      → is_blank (class_at classes) q ≡ true
  blank_at run q from high =
      let lt : q < page + count = omega (arith, high, many) in
      let at : page + (q - page) ≡ q = omega arith in
      bit_true _ (sym (m.each q (below run q lt from)) ∙ sym (ap (bit_at marks) at)
      ∙ run (q - page) (omega (arith, lt, from)))

  may : IsRunOf marks count page → may_begin (class_at classes) size page ≡ true
  may run = begins_from (class_at classes) size page (record {
    inside =
        (let last = below run (page + count - 1) (omega (arith, many)) (omega (arith, many)) in
        omega (arith, last, many, low));
    none = λ q from high. (blank_is (class_at classes) q (blank_at run q from high)).0;
    uncovered = λ q from high. (blank_is (class_at classes) q (blank_at run q from high)).1;
  })

  run_of : may_begin (class_at classes) size page ≡ true → IsRunOf marks count page
  run_of e ahead lt =
      let b = begins (class_at classes) size page e in
      let fit = b.inside in
      let high : page + ahead < page + pages_of size = omega (arith, lt, many) in
      m.each (page + ahead) (omega (arith, fit, lt, many, low))
      ∙ ap bit_of (blank_from (class_at classes) (page + ahead)
      (b.none (page + ahead) (omega arith) high) (b.uncovered (page + ahead) (omega arith) high))

  pub begins_marked : bit_at starts page ≡ bit_of (may_begin (class_at classes) size page)
  begins_marked = elim (cases_Bool (may_begin (class_at classes) size page))
      as (λ _. bit_at starts page ≡ bit_of (may_begin (class_at classes) size page)) [
        | inl t ↦ runs.1 (run_of t) ∙ sym (ap bit_of t)
        | inr f ↦ elim (cases_eq (bit_at starts page) 1)
            as (λ _. bit_at starts page ≡ bit_of (may_begin (class_at classes) size page)) [
              | inl one ↦ absurd (true≢false (sym (may (runs.0 one)) ∙ f))
              | inr ne ↦
                  (let off : bit_at starts page ≡ 0 = omega (arith, ne, bit_at-lt starts page) in
                  off ∙ sym (ap bit_of f))
            ]
      ]

-- a page is of a run, or beside it
in_cases : (page q count : ℕ)
    → ((page ≤ q) × (q < page + count)) ⊎ ((q < page) ⊎ (page + count ≤ q))
in_cases page q count =
    let Cases : Type 0 = ((page ≤ q) × (q < page + count)) ⊎ ((q < page) ⊎ (page + count ≤ q)) in
    elim (cases_lt q page) as (λ _. Cases) [
      | inl lt ↦ inr (inl lt)
      | inr ge ↦ elim (cases_lt q (page + count)) as (λ _. Cases) [
        | inl within ↦ inl (ge, within)
        | inr past ↦ inr (inr past)
      ]
    ]

-- the marks once a page gets the class of a size, or loses it
module _ (classes : List (Option ℕ)) (marks now count size page : ℕ) (m : AreMarked classes marks)
    (many : count ≡ pages_of size) (low : page < 16)
    (outside : (q : ℕ) → (q < page) ⊎ (page + count ≤ q) → bit_at now q ≡ bit_at marks q) where
  abbrev next : Option ℕ → ℕ → Option ℕ
  next class = class_at (slice_set classes page class)

  other : (class : Option ℕ) → IsElsewhere (class_at classes) (next class) page
  other class q ne = get_or-set_other classes page q class None ne

  here : (class : Option ℕ) → next class page ≡ class
  here class = get_or-set_same classes page class None (omega (arith, low, m.whole))

  out_of : (q : ℕ) → (q < page) ⊎ (page + count ≤ q) → IsOutside size page q
  out_of q out = elim out as (λ _. IsOutside size page q) [
    | inl before ↦ inl before
    | inr behind ↦ inr (omega (arith, behind, many))
  ]

  pub assigned_marked : may_begin (class_at classes) size page ≡ true
      → ((q : ℕ) → page ≤ q → q < page + count → bit_at now q ≡ 0)
      → AreMarked (slice_set classes page (Some size)) now
  assigned_marked may inside = record {
    whole = length-set classes page (Some size) ∙ m.whole;
    each = λ q lt. elim (in_cases page q count)
        as (λ _. bit_at now q ≡ bit_of (is_blank (next (Some size)) q)) [
          | inl i ↦ inside q i.0 i.1
              ∙ sym (ap bit_of (taken_inside (class_at classes) (next (Some size)) size page q may
              (here (Some size)) i.0 (omega (arith, i.1, many))))
          | inr o ↦ outside q o ∙ m.each q lt
              ∙ sym (ap bit_of (taken_outside (class_at classes) (next (Some size)) size page q may
              (here (Some size)) (other (Some size)) (out_of q o)))
        ];
  }

  pub cleared_marked : AreRuns (class_at classes) → class_at classes page ≡ Some size
      → ((q : ℕ) → page ≤ q → q < page + count → bit_at now q ≡ 1)
      → AreMarked (slice_set classes page None) now
  cleared_marked runs was inside = record {
    whole = length-set classes page None ∙ m.whole;
    each = λ q lt. elim (in_cases page q count)
        as (λ _. bit_at now q ≡ bit_of (is_blank (next None) q)) [
          | inl i ↦ inside q i.0 i.1
              ∙ sym (ap bit_of (given_up_inside (class_at classes) (next None) size page q runs was
              (here None) (other None) i.0 (omega (arith, i.1, many))))
          | inr o ↦ outside q o ∙ m.each q lt
              ∙ sym (ap bit_of (given_up_outside (class_at classes) (next None) size page q was
              (here None) (other None) (out_of q o)))
        ];
  }

-- all pages are marked where none has a class
pub none_marked : (classes : List (Option ℕ)) → length classes ≡ 16
    → ((q : ℕ) → class_at classes q ≡ None) → AreMarked classes 65535
none_marked classes whole none = record {
  whole = whole;
  each = λ q lt.
      bit_at_ones 16 q lt
      ∙ sym (ap bit_of (blank_from (class_at classes) q (none q) (false_from_ne_true _ (λ t.
      let by = covered_is (class_at classes) q t in
      none-some by.1 (sym (none by.0) ∙ by.2.class_is)))));
}

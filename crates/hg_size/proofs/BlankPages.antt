-- Which pages are without a class once one page gets a class or loses it: those of its run change,
-- and no others.
use Rattle.std.proofs.Common.{subst, ◌≡◌, ◌≢◌, ℕ, ◌+◌, ◌<◌, ◌≤◌, Bool, true, false, not, ◌&&◌}
use Rattle.std.proofs.Common.{refl, sym, ap, ◌∙◌, arith, Option, Some, None, is_none, inl, inr, ◌⊎◌}
use Rattle.std.proofs.lemmas.Bool.{cases_eq, cases_lt, false_from_ne_true}
use Rattle.std.proofs.lemmas.Option.{none-some, same_Some}
use Rattle.hg_size.specs.Sizes.{pages_of}
use Rattle.hg_size.specs.Runs.{is_covered, is_blank, may_begin, AreRuns}
use Rattle.hg_size.proofs.Covers.{same_test, covered_from, covered_is, begins, blank_from, runs_apart}

-- no class but that of one page is another
abbrev pub IsElsewhere : (ℕ → Option ℕ) → (ℕ → Option ℕ) → ℕ → Type 0
IsElsewhere class next page = (q : ℕ) → q ≢ page → next q ≡ class q

-- a page that isn't of a run
abbrev pub IsOutside : ℕ → ℕ → ℕ → Type 0
IsOutside size page q = (q < page) ⊎ (page + pages_of size ≤ q)

-- the pages of a run are not without a class, once its first has one
pub taken_inside : (class next : ℕ → Option ℕ) (size page q : ℕ)
    → may_begin class size page ≡ true → next page ≡ Some size
    → page ≤ q → q < page + pages_of size → is_blank next q ≡ false
taken_inside class next size page q may here low high =
    let fit = (begins class size page may).inside in
    elim (cases_eq q page) as (λ _. is_blank next q ≡ false) [
      | inl e ↦ ap (λ c. is_none c && not (is_covered next q)) (ap next e ∙ here)
      | inr ne ↦
          let by : is_covered next q ≡ true = covered_from next q page size (record {
            class_is = here;
            before = omega (arith, low, ne);
            within = high;
            segment = omega (arith, low, high, fit);
          }) in
          ap (λ b. is_none (next q) && not b) by ∙ no_right (is_none (next q))
    ]
  where
    no_right : (b : Bool) → (b && false) ≡ false
    no_right true = refl
    no_right false = refl

covers_kept : (class next : ℕ → Option ℕ) (page q : ℕ) → IsElsewhere class next page
    → ((size : ℕ) → class page ≡ Some size → IsOutside size page q)
    → is_covered class q ≡ true → is_covered next q ≡ true
covers_kept class next page q other past t =
    let by = covered_is class q t in
    let before = by.2.before in
    let within = by.2.within in
    elim (cases_eq by.0 page) as (λ _. is_covered next q ≡ true) [
      | inl e ↦ absurd (elim (past by.1 (ap class (sym e) ∙ by.2.class_is)) as (λ _. ⊥) [
        | inl low ↦ omega (arith, low, before, e)
        | inr high ↦ omega (arith, high, within, e)
      ])
      | inr ne ↦ covered_from next q by.0 by.1 (record {
        class_is = other by.0 ne ∙ by.2.class_is;
        before = before;
        within = within;
        segment = by.2.segment;
      })
    ]

same_blank : (class next : ℕ → Option ℕ) (page q : ℕ) → q ≢ page → IsElsewhere class next page
    → ((size : ℕ) → class page ≡ Some size → IsOutside size page q)
    → ((size : ℕ) → next page ≡ Some size → IsOutside size page q)
    → is_blank next q ≡ is_blank class q
same_blank class next page q ne other old new =
    let covers : is_covered next q ≡ is_covered class q =
    same_test (is_covered class q) (is_covered next q)
    (covers_kept class next page q other old)
    (covers_kept next class page q (λ r n. sym (other r n)) new) in
    ap (λ c. is_none c && not (is_covered next q)) (other q ne)
    ∙ ap (λ b. is_none (class q) && not b) covers

outside_is : (size page q : ℕ) → IsOutside size page q → q ≢ page
outside_is size page q out e = elim out as (λ _. ⊥) [
  | inl low ↦ omega (arith, low, e)
  | inr high ↦ omega (arith, high, e)
]

pub taken_outside : (class next : ℕ → Option ℕ) (size page q : ℕ)
    → may_begin class size page ≡ true → next page ≡ Some size → IsElsewhere class next page
    → IsOutside size page q → is_blank next q ≡ is_blank class q
taken_outside class next size page q may here other out =
    let none : class page ≡ None =
    (begins class size page may).none page (omega arith) (omega arith) in
    same_blank class next page q (outside_is size page q out) other
    (λ n e. absurd (none-some n (sym none ∙ e)))
    (λ n e. subst (λ k. IsOutside k page q) (same_Some _ _ (sym here ∙ e)) out)

-- and are, once it has lost it
pub given_up_inside : (class next : ℕ → Option ℕ) (size page q : ℕ) → AreRuns class
    → class page ≡ Some size → next page ≡ None → IsElsewhere class next page
    → page ≤ q → q < page + pages_of size → is_blank next q ≡ true
given_up_inside class next size page q runs was gone other low high =
    let fit = (runs page).inside size was in
    let under : (r : ℕ) → r ≢ page → page ≤ r → r < page + pages_of size → class r ≡ None =
    λ r ne a b. (runs r).covered (covered_from class r page size (record {
      class_is = was;
      before = omega (arith, a, ne);
      within = b;
      segment = omega (arith, a, b, fit);
    })) in
    let none : next q ≡ None = elim (cases_eq q page) as (λ _. next q ≡ None) [
      | inl e ↦ ap next e ∙ gone
      | inr ne ↦ other q ne ∙ under q ne low high
    ] in
    blank_from next q none (false_from_ne_true _ (λ t.
    let by = covered_is next q t in
    let before = by.2.before in
    let within = by.2.within in
    elim (cases_eq by.0 page) as (λ _. ⊥) [
      | inl e ↦ none-some by.1 (sym gone ∙ ap next (sym e) ∙ by.2.class_is)
      | inr ne ↦
          (let old : class by.0 ≡ Some by.1 = sym (other by.0 ne) ∙ by.2.class_is in
          elim (cases_lt by.0 page) as (λ _. ⊥) [
            | inl earlier ↦
                (let past = runs_apart class by.0 page by.1 runs old earlier
                (λ z. none-some size (sym z ∙ was)) in
                omega (arith, past, within, low))
            | inr inside ↦ none-some by.1
                (sym (under by.0 ne inside (omega (arith, before, high))) ∙ old)
          ])
    ]))

pub given_up_outside : (class next : ℕ → Option ℕ) (size page q : ℕ)
    → class page ≡ Some size → next page ≡ None → IsElsewhere class next page
    → IsOutside size page q → is_blank next q ≡ is_blank class q
given_up_outside class next size page q was gone other out =
    same_blank class next page q (outside_is size page q out) other
    (λ n e. subst (λ k. IsOutside k page q) (same_Some _ _ (sym was ∙ e)) out)
    (λ n e. absurd (none-some n (sym gone ∙ e)))

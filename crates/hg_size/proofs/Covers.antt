-- Which pages are covered, and which may get a class.
use Rattle.std.proofs.Common.{suc, zero, subst, ◌≡◌, ◌≢◌, ℕ, ◌+◌, ◌-◌, ◌/◌, ◌%◌, ◌<◌, ◌≤◌, Bool, true, false, not}
use Rattle.std.proofs.Common.{get_or, nat_le, refl, sym, ap, ◌∙◌, arith, Option, Some, None, is_none, inl, inr, ◌⊎◌}
use Rattle.std.specs.List.{list_any, list_all, range_with_len}
use Rattle.std.proofs.lemmas.Bool.{lt-ltb, ltb-true, le-leb, leb-true, and_parts, and_from, not-true, cases_Bool, cases_eq, cases_lt, true≢false, false_from_ne_true, true_from_ne_false}
use Rattle.std.proofs.lemmas.List.Folds.{list_any_at, list_all_at, Any-from_list_any}
use Rattle.std.proofs.lemmas.List.FromFn.{length-range_with_len, get_or-range_with_len}
use Rattle.std.proofs.lemmas.Option.{none-some, same_Some}
use Rattle.hg_size.specs.Sizes.{pages_of}
use Rattle.hg_size.specs.Runs.{reaches, is_covered, is_blank, may_begin, AreRuns, IsRunAt}

-- what stands at a number of a range
in_range : (from count x : ℕ) → from ≤ x → x < from + count
    → get_or (range_with_len from count) (x - from) 0 ≡ x
in_range from count x low high =
    get_or-range_with_len from count (x - from) 0 (omega arith) ∙ (omega arith)

-- a test that passes for a number of a range
any_of : (p : ℕ → Bool) (from count x : ℕ) → from ≤ x → x < from + count → p x ≡ true
    → list_any p (range_with_len from count) ≡ true
any_of p from count x low high t =
    let len = length-range_with_len from count in
    list_any_at p (range_with_len from count) (x - from) 0 (omega arith)
    (ap p (in_range from count x low high) ∙ t)

-- and the number that a test has found
any_found : (p : ℕ → Bool) (from count : ℕ) → list_any p (range_with_len from count) ≡ true
    → (x : ℕ) × (from ≤ x) × (x < from + count) × (p x ≡ true)
any_found p from count e =
    let a = Any-from_list_any p (range_with_len from count) e in
    let len = length-range_with_len from count in
    let below : a.0 < count = omega (arith, a.2) in
    let is : a.1 ≡ from + a.0 = sym a.3 ∙ get_or-range_with_len from count a.0 a.1 below in
    (from + a.0, omega arith, omega arith, ap p (sym is) ∙ a.4)

-- a test that passes for each of a range
all_of : (p : ℕ → Bool) (from count x : ℕ) → from ≤ x → x < from + count
    → list_all p (range_with_len from count) ≡ true → p x ≡ true
all_of p from count x low high t =
    let len = length-range_with_len from count in
    true_from_ne_false (p x) (λ f. true≢false (sym t
    ∙ list_all_at p (range_with_len from count) (x - from) 0 (omega arith)
    (ap p (in_range from count x low high) ∙ f)))

all_is : (p : ℕ → Bool) (from count : ℕ)
    → ((x : ℕ) → from ≤ x → x < from + count → p x ≡ true)
    → list_all p (range_with_len from count) ≡ true
all_is p from zero each = refl
all_is p from (suc n) each =
    and_from (p from) _ (each from (omega arith) (omega arith))
    (all_is p (from + 1) n (λ x low high. each x (omega arith) (omega arith)))

-- two tests of which each passes where the other does
pub same_test : (a b : Bool) → (a ≡ true → b ≡ true) → (b ≡ true → a ≡ true) → b ≡ a
same_test a b there back = elim (cases_Bool a) as (λ _. b ≡ a) [
  | inl t ↦ there t ∙ sym t
  | inr f ↦ false_from_ne_true _ (λ t. true≢false (sym (back t) ∙ f)) ∙ sym f
]

reaches_is : (c : Option ℕ) (behind : ℕ) → reaches c behind ≡ true
    → (size : ℕ) × (c ≡ Some size) × (behind < pages_of size)
reaches_is None behind e = absurd (cc)
reaches_is (Some size) behind e = (size, refl, ltb-true _ _ e)

-- a page that is covered: by a page of its segment, of this size
pub record IsCoveredBy (class : ℕ → Option ℕ) (page other size : ℕ) : Type 0 where
  pub class_is : class other ≡ Some size
  pub before : other < page
  pub within : page < other + pages_of size
  pub segment : other / 16 ≡ page / 16

pub covered_from : (class : ℕ → Option ℕ) (page other size : ℕ)
    → IsCoveredBy class page other size → is_covered class page ≡ true
unfolding is_covered
covered_from class page other size by =
    let low = by.before in
    let high = by.within in
    let same = by.segment in
    let there : page - (page - other) ≡ other = omega arith in
    any_of (λ back. reaches (class (page - back)) back) 1 (page % 16) (page - other)
    (omega arith) (omega arith)
    (ap (λ n. reaches (class n) (page - other)) there
    ∙ ap (λ c. reaches c (page - other)) by.class_is
    ∙ lt-ltb (page - other) (pages_of size) (omega arith))

pub covered_is : (class : ℕ → Option ℕ) (page : ℕ) → is_covered class page ≡ true
    → (other : ℕ) × (size : ℕ) × IsCoveredBy class page other size
unfolding is_covered
covered_is class page e =
    let f = any_found (λ back. reaches (class (page - back)) back) 1 (page % 16) e in
    let r = reaches_is (class (page - f.0)) f.0 f.3 in (
      page - f.0,
      r.0,
      record {
        class_is = r.1;
        before = omega (arith, f.1, f.2);
        within = omega (arith, f.1, f.2, r.2);
        segment = omega (arith, f.1, f.2);
      },
    )

-- the blocks of an earlier page end before a page that isn't covered
pub uncovered : (class : ℕ → Option ℕ) (page other size : ℕ) → is_covered class page ≡ false
    → class other ≡ Some size → other < page → other / 16 ≡ page / 16
    → other + pages_of size ≤ page
uncovered class page other size none is before same =
    elim (cases_lt page (other + pages_of size)) as (λ _. other + pages_of size ≤ page) [
      | inl within ↦ absurd (true≢false (sym (covered_from class page other size
          (record { class_is = is; before = before; within = within; segment = same })) ∙ none))
      | inr past ↦ past
    ]

-- by the classes of the pages of its segment alone
abbrev pub AreAlike : (ℕ → Option ℕ) → (ℕ → Option ℕ) → ℕ → Type 0
AreAlike class next page = (q : ℕ) → q / 16 ≡ page / 16 → next q ≡ class q

carried : (class next : ℕ → Option ℕ) (page : ℕ) → AreAlike class next page
    → is_covered class page ≡ true → is_covered next page ≡ true
carried class next page same e =
    let by = covered_is class page e in
    covered_from next page by.0 by.1 (record {
      class_is = same by.0 by.2.segment ∙ by.2.class_is;
      before = by.2.before;
      within = by.2.within;
      segment = by.2.segment;
    })

pub covered_alike : (class next : ℕ → Option ℕ) (page : ℕ) → AreAlike class next page
    → is_covered next page ≡ is_covered class page
covered_alike class next page same =
    same_test (is_covered class page) (is_covered next page) (carried class next page same)
    (carried next class page (λ q e. sym (same q e)))

-- what a page that may get a class has, and what gives it
pub record MayBegin (class : ℕ → Option ℕ) (size page : ℕ) : Type 0 where
  pub inside : page % 16 + pages_of size ≤ 16
  pub none : (q : ℕ) → page ≤ q → q < page + pages_of size → class q ≡ None
  pub uncovered : (q : ℕ) → page ≤ q → q < page + pages_of size → is_covered class q ≡ false

none_is : (o : Option ℕ) → is_none o ≡ true → o ≡ None
none_is None e = refl
none_is (Some n) e = absurd (cc)

pub blank_from : (class : ℕ → Option ℕ) (q : ℕ) → class q ≡ None → is_covered class q ≡ false
    → is_blank class q ≡ true
blank_from class q none un = and_from (is_none (class q)) _ (ap is_none none) (ap not un)

pub blank_is : (class : ℕ → Option ℕ) (q : ℕ) → is_blank class q ≡ true
    → (class q ≡ None) × (is_covered class q ≡ false)
blank_is class q e =
    let both = and_parts (is_none (class q)) _ e in
    (none_is (class q) both.0, not-true _ both.1)

pub begins : (class : ℕ → Option ℕ) (size page : ℕ) → may_begin class size page ≡ true
    → MayBegin class size page
unfolding may_begin
begins class size page e =
    let both = and_parts (nat_le (page % 16 + pages_of size) 16) _ e in
    let each : (q : ℕ) → page ≤ q → q < page + pages_of size → is_blank class q ≡ true =
    λ q low high.
    let there : page + (q - page) ≡ q = omega arith in
    ap (is_blank class) (sym there)
    ∙ all_of (λ ahead. is_blank class (page + ahead)) 0 (pages_of size) (q - page)
    (omega arith) (omega arith) both.1 in
    record {
      inside = leb-true _ _ both.0;
      none = λ q low high. (blank_is class q (each q low high)).0;
      uncovered = λ q low high. (blank_is class q (each q low high)).1;
    }

pub begins_from : (class : ℕ → Option ℕ) (size page : ℕ) → MayBegin class size page
    → may_begin class size page ≡ true
unfolding may_begin
begins_from class size page h =
    and_from (nat_le (page % 16 + pages_of size) 16) _ (le-leb _ _ h.inside)
    (all_is (λ ahead. is_blank class (page + ahead)) 0 (pages_of size) (λ x low high.
    blank_from class (page + x) (h.none (page + x) (omega arith) (omega arith))
    (h.uncovered (page + x) (omega arith) (omega arith))))

pub begins_not : (class : ℕ → Option ℕ) (size page : ℕ) → (MayBegin class size page → ⊥)
    → may_begin class size page ≡ false
begins_not class size page no_way =
    false_from_ne_true _ (λ t. no_way (begins class size page t))

begins_carried : (class next : ℕ → Option ℕ) (size page : ℕ) → AreAlike class next page
    → may_begin class size page ≡ true → may_begin next size page ≡ true
begins_carried class next size page same e =
    let h = begins class size page e in
    let fit = h.inside in
    begins_from next size page (record {
      inside = h.inside;
      none = λ q low high. same q (omega arith) ∙ h.none q low high;
      uncovered = λ q low high.
          covered_alike class next q (λ r e. same r (omega arith)) ∙ h.uncovered q low high;
    })

pub begins_alike : (class next : ℕ → Option ℕ) (size page : ℕ) → AreAlike class next page
    → may_begin next size page ≡ may_begin class size page
begins_alike class next size page same =
    same_test (may_begin class size page) (may_begin next size page)
    (begins_carried class next size page same)
    (begins_carried next class size page (λ q e. sym (same q e)))

-- fewer classes
pub runs_fewer : (class next : ℕ → Option ℕ)
    → ((q size : ℕ) → next q ≡ Some size → class q ≡ Some size) → AreRuns class → AreRuns next
runs_fewer class next kept h page = record {
  inside = λ size e. (h page).inside size (kept page size e);
  covered = λ t.
      let by = covered_is next page t in
      let old : is_covered class page ≡ true = covered_from class page by.0 by.1 (record {
        class_is = kept by.0 by.1 by.2.class_is;
        before = by.2.before;
        within = by.2.within;
        segment = by.2.segment;
      }) in
      elim (cases_none (next page)) as (λ _. next page ≡ None) [
        | inl none ↦ none
        | inr some ↦
            absurd (none-some some.0 (sym ((h page).covered old) ∙ kept page some.0 some.1))
      ];
}
  where
    cases_none : (o : Option ℕ) → (o ≡ None) ⊎ ((n : ℕ) × (o ≡ Some n))
    cases_none None = inl refl
    cases_none (Some n) = inr (n, refl)

-- a page that may get a class has it now
pub runs_more : (class next : ℕ → Option ℕ) (size page : ℕ) → may_begin class size page ≡ true
    → next page ≡ Some size → ((q : ℕ) → q ≢ page → next q ≡ class q) → AreRuns class
    → AreRuns next
runs_more class next size page e here other h q =
    let m = begins class size page e in
    let fit = m.inside in
    record {
      inside = λ n is. elim (cases_eq q page) as (λ _. q % 16 + pages_of n ≤ 16) [
        | inl same ↦
            let k : size ≡ n = same_Some _ _ (sym here ∙ ap next (sym same) ∙ is) in
            subst (λ k. q % 16 + pages_of k ≤ 16) k (omega arith)
        | inr ne ↦ (h q).inside n (sym (other q ne) ∙ is)
      ];
      covered = λ t.
          let by = covered_is next q t in
          let before = by.2.before in
          let within = by.2.within in
          elim (cases_eq by.0 page) as (λ _. next q ≡ None) [
            | inl same ↦
                let k : size ≡ by.1 =
                same_Some _ _ (sym here ∙ ap next (sym same) ∙ by.2.class_is) in
                let reach : pages_of size ≡ pages_of by.1 = ap pages_of k in
                other q (λ z. omega (arith, z, same, before))
                ∙ m.none q (omega (arith, same, before)) (omega (arith, same, within, reach))
            | inr ne ↦
                let old : is_covered class q ≡ true = covered_from class q by.0 by.1 (record {
                  class_is = sym (other by.0 ne) ∙ by.2.class_is;
                  before = by.2.before;
                  within = by.2.within;
                  segment = by.2.segment;
                }) in
                elim (cases_eq q page) as (λ _. next q ≡ None) [
                  | inl same ↦ absurd (true≢false (sym (ap (is_covered class) (sym same) ∙ old)
                      ∙ m.uncovered page (omega arith) (omega arith)))
                  | inr away ↦ other q away ∙ (h q).covered old
                ]
          ];
    }

-- blocks of two pages of a segment lie apart
pub runs_apart : (class : ℕ → Option ℕ) (page other size : ℕ) → AreRuns class
    → class page ≡ Some size → page < other → class other ≢ None → page + pages_of size ≤ other
runs_apart class page other size h is before some =
    let fit = (h page).inside size is in
    elim (cases_lt other (page + pages_of size)) as (λ _. page + pages_of size ≤ other) [
      | inl within ↦ absurd (some ((h other).covered (covered_from class other page size
          (record { class_is = is; before = before; within = within; segment = omega arith }))))
      | inr past ↦ past
    ]

-- of one page
pub run_alike : (class next : ℕ → Option ℕ) (page : ℕ) → AreAlike class next page
    → IsRunAt class page → IsRunAt next page
run_alike class next page same h = record {
  inside = λ size e. h.inside size (sym (same page refl) ∙ e);
  covered = λ t. same page refl ∙ h.covered (sym (covered_alike class next page same) ∙ t);
}

-- where no class of the segment is but one word
pub run_small : (class : ℕ → Option ℕ) (page : ℕ)
    → ((q size : ℕ) → q / 16 ≡ page / 16 → class q ≡ Some size → size ≡ 1) → IsRunAt class page
run_small class page small = record {
  inside = λ size e. let one = small page size refl e in omega arith;
  covered = λ t.
      let by = covered_is class page t in
      let one = small by.0 by.1 by.2.segment by.2.class_is in
      let before = by.2.before in
      let within = by.2.within in
      absurd (omega arith);
}

-- Pages of a segment by their numbers in it: what covers them, and which may get a class, is the
-- same.
use Rattle.std.proofs.Common.{◌≡◌, ℕ, ◌+◌, ◌*◌, ◌/◌, ◌%◌, true, refl, sym, ap, ◌∙◌, arith, Option}
use Rattle.hg_size.specs.Runs.{is_covered, may_begin, IsRunAt}
use Rattle.hg_size.proofs.Covers.{same_test, covered_from, covered_is, begins, begins_from}

abbrev pub AreWithin : (ℕ → Option ℕ) → (ℕ → Option ℕ) → ℕ → Type 0
AreWithin class next page = (q : ℕ) → q / 16 ≡ page / 16 → next q ≡ class (q % 16)

covered_down : (class next : ℕ → Option ℕ) (page : ℕ) → AreWithin class next page
    → is_covered next page ≡ true → is_covered class (page % 16) ≡ true
covered_down class next page same e =
    let by = covered_is next page e in
    let before = by.2.before in
    let within = by.2.within in
    let seg = by.2.segment in
    covered_from class (page % 16) (by.0 % 16) by.1 (record {
      class_is = sym (same by.0 seg) ∙ by.2.class_is;
      before = omega arith;
      within = omega arith;
      segment = omega arith;
    })

covered_up : (class next : ℕ → Option ℕ) (page : ℕ) → AreWithin class next page
    → is_covered class (page % 16) ≡ true → is_covered next page ≡ true
covered_up class next page same e =
    let by = covered_is class (page % 16) e in
    let before = by.2.before in
    let within = by.2.within in
    let at : (page / 16 * 16 + by.0) % 16 ≡ by.0 = omega arith in
    covered_from next page (page / 16 * 16 + by.0) by.1 (record {
      class_is = same (page / 16 * 16 + by.0) (omega arith) ∙ ap class at ∙ by.2.class_is;
      before = omega arith;
      within = omega arith;
      segment = omega arith;
    })

pub covered_within : (class next : ℕ → Option ℕ) (page : ℕ) → AreWithin class next page
    → is_covered next page ≡ is_covered class (page % 16)
covered_within class next page same =
    same_test (is_covered class (page % 16)) (is_covered next page)
    (covered_up class next page same) (covered_down class next page same)

pub run_within : (class next : ℕ → Option ℕ) (page : ℕ) → AreWithin class next page
    → IsRunAt class (page % 16) → IsRunAt next page
run_within class next page same h = record {
  inside = λ size e.
      (let fit = h.inside size (sym (same page refl) ∙ e) in omega (arith, fit));
  covered = λ t. same page refl ∙ h.covered (sym (covered_within class next page same) ∙ t);
}

begins_down : (class next : ℕ → Option ℕ) (size page : ℕ) → AreWithin class next page
    → may_begin next size page ≡ true → may_begin class size (page % 16) ≡ true
begins_down class next size page same e =
    let h = begins next size page e in
    let fit = h.inside in
    begins_from class size (page % 16) (record {
      inside = omega arith;
      none = λ q low high.
          let at : (page / 16 * 16 + q) % 16 ≡ q = omega arith in
          ap class (sym at) ∙ sym (same (page / 16 * 16 + q) (omega arith))
          ∙ h.none (page / 16 * 16 + q) (omega arith) (omega arith);
      uncovered = λ q low high.
          let at : (page / 16 * 16 + q) % 16 ≡ q = omega arith in
          ap (is_covered class) (sym at)
          ∙ sym (covered_within class next (page / 16 * 16 + q) (λ r e. same r (omega arith)))
          ∙ h.uncovered (page / 16 * 16 + q) (omega arith) (omega arith);
    })

begins_up : (class next : ℕ → Option ℕ) (size page : ℕ) → AreWithin class next page
    → may_begin class size (page % 16) ≡ true → may_begin next size page ≡ true
begins_up class next size page same e =
    let h = begins class size (page % 16) e in
    let fit = h.inside in
    begins_from next size page (record {
      inside = omega arith;
      none = λ q low high. same q (omega arith) ∙ h.none (q % 16) (omega arith) (omega arith);
      uncovered = λ q low high.
          covered_within class next q (λ r e. same r (omega arith))
          ∙ h.uncovered (q % 16) (omega arith) (omega arith);
    })

pub begins_within : (class next : ℕ → Option ℕ) (size page : ℕ) → AreWithin class next page
    → may_begin next size page ≡ may_begin class size (page % 16)
begins_within class next size page same =
    same_test (may_begin class size (page % 16)) (may_begin next size page)
    (begins_up class next size page same) (begins_down class next size page same)

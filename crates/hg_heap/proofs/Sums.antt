-- Sums that go on where nothing counts; and what a page without a class loses.
use Rattle.std.proofs.Common.{◌≡◌, ℕ, zero, suc, ◌+◌, ◌-◌, ◌≤◌, ◌&&◌, inl, inr, Bool, true, false}
use Rattle.std.proofs.Common.{cond, List, Option, Some, None, refl, sym, ap, ◌∙◌, arith, is_some}
use Rattle.std.specs.List.{sum_by, range_with_len}
use Rattle.std.proofs.lemmas.Bool.{cases_lt, true≢false}
use Rattle.hg_place.specs.declared.standing.Standing.{Standing}
use Rattle.hg_place.specs.declared.standing.Standing.TheVariants.{Home, Open}
use Rattle.hg_place.specs.Standings.{is_home}
use Rattle.hg_agreement.specs.Holdings.{block_by}
use Rattle.hg_heap.proofs.ViewCharges.{sum_next}

-- a sum over more numbers that count nothing
sum_past : (f : ℕ → ℕ) (m : ℕ) → ((k : ℕ) → m ≤ k → f k ≡ 0) → (n : ℕ)
    → sum_by f (range_with_len 0 (m + n)) ≡ sum_by f (range_with_len 0 m)
sum_past f m none zero =
    let e : m + 0 ≡ m = omega arith in ap (λ (k : ℕ). sum_by f (range_with_len 0 k)) e
sum_past f m none (suc n) =
    let e : m + suc n ≡ suc (m + n) = omega arith in
    let z : 0 + (m + n) ≡ m + n = omega arith in
    let s = ap (λ (k : ℕ). sum_by f (range_with_len 0 k)) e in
    let last = ap f z ∙ none (m + n) (omega arith) in
    omega (arith, s, last, sum_next f 0 (m + n), sum_past f m none n)

-- sums that both go on to where nothing counts
pub sum_ends : (f : ℕ → ℕ) (m n : ℕ) → ((k : ℕ) → m ≤ k → f k ≡ 0) → ((k : ℕ) → n ≤ k → f k ≡ 0)
    → sum_by f (range_with_len 0 m) ≡ sum_by f (range_with_len 0 n)
sum_ends f m n low high =
    elim (cases_lt m n)
    as (λ _. sum_by f (range_with_len 0 m) ≡ sum_by f (range_with_len 0 n)) [
      | inl lt ↦
          let e : m + (n - m) ≡ n = omega (arith, lt) in
          sym (sum_past f m low (n - m)) ∙ ap (λ (k : ℕ). sum_by f (range_with_len 0 k)) e
      | inr ge ↦
          let e : n + (m - n) ≡ m = omega (arith, ge) in
          ap (λ (k : ℕ). sum_by f (range_with_len 0 k)) (sym e) ∙ sum_past f n high (m - n)
    ]

-- a page without a class loses none
pub none_lost : (class : Option ℕ) (home : Bool)
    → cond (is_some class && home) None class ≡ cond home None class
none_lost None true = refl
none_lost None false = refl
none_lost (Some size) home = refl

pub three : (held idle classed : Bool) → (held && (idle && classed)) ≡ (classed && (held && idle))
three true true true = refl
three true true false = refl
three true false true = refl
three true false false = refl
three false idle true = refl
three false idle false = refl

pub home_blocks : (standing : Standing) (words other : List ℕ) → is_home standing ≡ true
    → block_by standing words ≡ block_by standing other
home_blocks (Home g) words other e = refl
home_blocks (Open g o) words other e = absurd (true≢false (sym e))

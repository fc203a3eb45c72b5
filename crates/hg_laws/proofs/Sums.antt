-- Sums over a range.
use Rattle.std.proofs.Common.{◌≡◌, ◌≢◌, ℕ, ◌+◌, ◌<◌, ◌≤◌, inl, inr, List, [], ◌∷◌, ap}
use Rattle.std.proofs.Common.{arith, zero, suc}
use Rattle.std.specs.List.{range_with_len, sum_by}
use Rattle.std.proofs.lemmas.Bool.{cases_eq}
use Rattle.std.proofs.lemmas.List.Sums.{sum_by-cons}

-- less in each place, less in all
pub sum_le : (f g : ℕ → ℕ) (xs : List ℕ) → ((n : ℕ) → g n ≤ f n) → sum_by g xs ≤ sum_by f xs
sum_le f g [] h = omega arith
sum_le f g (x ∷ xs) h =
    let a = sum_by-cons f x xs in
    let b = sum_by-cons g x xs in
    let here = h x in
    let rest = sum_le f g xs h in
    omega arith

-- the same but at one place outside the range
pub sum_outside : (f g : ℕ → ℕ) (a n p : ℕ) → ((q : ℕ) → q ≢ p → g q ≡ f q) → p < a → sum_by g (range_with_len a n) ≡ sum_by f (range_with_len a n)
sum_outside f g a zero p same low = omega arith
sum_outside f g a (suc n) p same low =
    let x = sum_by-cons f a (range_with_len (a + 1) n) in
    let y = sum_by-cons g a (range_with_len (a + 1) n) in
    let here = same a (λ e. omega arith) in
    let rest = sum_outside f g (a + 1) n p same (omega arith) in
    omega arith

-- and at one place inside, where there was nothing
pub sum_inside : (f g : ℕ → ℕ) (a n p : ℕ) → ((q : ℕ) → q ≢ p → g q ≡ f q) → f p ≡ 0 → a ≤ p → p < a + n → sum_by g (range_with_len a n) ≡ sum_by f (range_with_len a n) + g p
sum_inside f g a zero p same none low high = absurd (omega arith)
sum_inside f g a (suc n) p same none low high =
    let x = sum_by-cons f a (range_with_len (a + 1) n) in
    let y = sum_by-cons g a (range_with_len (a + 1) n) in
    elim (cases_eq a p) as (λ _. sum_by g (range_with_len a (suc n)) ≡ sum_by f (range_with_len a (suc n)) + g p) [
      | inl e ↦
          let here = ap f e in
          let there = ap g e in
          let rest = sum_outside f g (a + 1) n p same (omega arith) in
          omega arith
      | inr ne ↦
          let here = same a ne in
          let rest = sum_inside f g (a + 1) n p same none (omega arith) (omega arith) in
          omega arith
    ]

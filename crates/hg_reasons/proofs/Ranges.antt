-- The numbers that are left.
use Rattle.std.proofs.Common.{◌≡◌, ℕ, ◌+◌, ◌-◌, ◌<◌, Bool, cond, List, [], ◌∷◌, count_by, ap, ◌∙◌, suc, arith}
use Rattle.std.proofs.lemmas.List.Sums.{sum_by-cons}
use Rattle.std.specs.List.{range_with_len}

-- the first of those that are left, and the others
pub range_more : (a n : ℕ) → a < n → range_with_len a (n - a) ≡ a ∷ range_with_len (a + 1) (n - (a + 1))
range_more a n below = let e : n - a ≡ suc (n - (a + 1)) = omega arith in ap (range_with_len a) e

count_one : (p : ℕ → Bool) (x : ℕ) (xs : List ℕ) → count_by p (x ∷ xs) ≡ count_by p (x ∷ []) + count_by p xs
count_one p x xs =
    let f : ℕ → ℕ = λ y. cond (p y) 1 0 in
    let all = sum_by-cons f x xs in
    let one = sum_by-cons f x [] in
    omega (arith, all, one)

-- how many of those that are left pass: the first, where it does, and how many of the others
pub count_left : (p : ℕ → Bool) (a n : ℕ) → a < n
    → count_by p (range_with_len a (n - a)) ≡ count_by p (a ∷ []) + count_by p (range_with_len (a + 1) (n - (a + 1)))
count_left p a n below = ap (count_by p) (range_more a n below) ∙ count_one p a (range_with_len (a + 1) (n - (a + 1)))

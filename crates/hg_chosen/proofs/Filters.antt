-- Filters of rising numbers.
use Rattle.std.proofs.Common.{◌≡◌, ℕ, zero, suc, ◌+◌, ◌<◌, ◌≤◌, ◌&&◌, Bool, true, false, cond}
use Rattle.std.proofs.Common.{nat_lt, ◌∷◌, List, map, filter, refl, ap, ◌∙◌, arith}
use Rattle.std.specs.List.{range_with_len}
use Rattle.std.proofs.lemmas.Bool.{lt-ltb, le-ltb}
use Rattle.hg_heap.proofs.Blanks.{filtered_none}

-- filters that tell the same of each number
pub filter_same : (p r : ℕ → Bool) (low count : ℕ)
    → ((i : ℕ) → low ≤ i → i < low + count → p i ≡ r i)
    → filter p (range_with_len low count) ≡ filter r (range_with_len low count)
filter_same p r low zero same = refl
filter_same p r low (suc n) same =
    ap (λ (b : Bool). cond b (low ∷ filter p (range_with_len (low + 1) n))
    (filter p (range_with_len (low + 1) n))) (same low (omega arith) (omega arith))
    ∙ ap (λ xs. cond (r low) (low ∷ xs) xs) (filter_same p r (low + 1) n
    (λ i a b. same i (omega (arith, a)) (omega (arith, b))))

-- of numbers that are so much greater
map_cond : (f : ℕ → ℕ) (b : Bool) (x : ℕ) (xs : List ℕ)
    → cond b (f x ∷ map f xs) (map f xs) ≡ map f (cond b (x ∷ xs) xs)
map_cond f true x xs = refl
map_cond f false x xs = refl

pub filter_shift : (p : ℕ → Bool) (base low count : ℕ)
    → filter p (range_with_len (base + low) count)
    ≡ map (λ i. base + i) (filter (λ i. p (base + i)) (range_with_len low count))
filter_shift p base low zero = refl
filter_shift p base low (suc n) =
    let next : base + low + 1 ≡ base + (low + 1) = omega arith in
    let rest = ap (λ m. filter p (range_with_len m n)) next ∙ filter_shift p base (low + 1) n in
    ap (λ xs. cond (p (base + low)) ((base + low) ∷ xs) xs) rest
    ∙ map_cond (λ i. base + i) (p (base + low)) low
    (filter (λ i. p (base + i)) (range_with_len (low + 1) n))

-- of which none from a bound on passes
pub filter_cut : (q : ℕ → Bool) (bound low less count : ℕ) → low + less ≡ bound → less ≤ count
    → filter (λ i. nat_lt i bound && q i) (range_with_len low count)
    ≡ filter q (range_with_len low less)
filter_cut q bound low zero count e small =
    filtered_none (λ i. nat_lt i bound && q i) low count
    (λ x a b. ap (λ (c : Bool). c && q x) (le-ltb x bound (omega (arith, a, e))))
filter_cut q bound low (suc m) zero e small = absurd (omega (arith, small))
filter_cut q bound low (suc m) (suc n) e small =
    let rest = filter_cut q bound (low + 1) m n (omega (arith, e)) (omega (arith, small)) in
    ap (λ (b : Bool). cond (b && q low) (low
    ∷ filter (λ i. nat_lt i bound && q i) (range_with_len (low + 1) n))
    (filter (λ i. nat_lt i bound && q i) (range_with_len (low + 1) n)))
    (lt-ltb low bound (omega (arith, e)))
    ∙ ap (λ xs. cond (q low) (low ∷ xs) xs) rest

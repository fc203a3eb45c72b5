-- How often a place stands on a list.
use Rattle.std.proofs.Common.{◌≡◌, ◌≢◌, ℕ, zero, suc, ◌+◌, ◌==◌, ◌<◌, ◌≤◌, inl, inr, true, false, cond, ◌∷◌, [], ◌++◌, List, Contains, map, get_or, refl, sym, ap, ◌∙◌, arith}
use Rattle.std.specs.List.{concat, flat_map, range_with_len, sum_by}
use Rattle.std.proofs.lemmas.Bool.{cases_eq, eq-eqb, ne_eqb}
use Rattle.std.proofs.lemmas.List.Sums.{sum_by-append, sum_by-cons, get_or-le-sum_by}
use Rattle.std.proofs.lemmas.List.Concat.{concat_is, flat_map-cons}
use Rattle.std.proofs.lemmas.List.Folds.{flat_map-map}
use Rattle.hg_place.specs.Words.{bit_of}
use Rattle.hg_machine.specs.Lists.{times}

pub times-append : (n : ℕ) (xs ys : List ℕ) → times n (xs ++ ys) ≡ times n xs + times n ys
times-append n xs ys = sum_by-append (λ y. cond (y == n) 1 0) xs ys

pub times-cons : (n x : ℕ) (xs : List ℕ) → times n (x ∷ xs) ≡ bit_of (x == n) + times n xs
times-cons n x xs = sum_by-cons (λ y. cond (y == n) 1 0) x xs ∙ ap (λ k. k + times n xs) (elim (x == n) as (λ b. cond b 1 0 ≡ bit_of b) [ true ↦ refl | false ↦ refl ])

-- what is contained stands there
abbrev adds : ℕ → ℕ → ℕ
adds n x = cond (x == n) 1 0

adds_one : (n x : ℕ) → x ≡ n → adds n x ≡ 1
adds_one n x e = let same : (x == n) ≡ true = eq-eqb x n e in rw same

pub times_there : (n : ℕ) (xs : List ℕ) → Contains xs n → 1 ≤ times n xs
times_there n xs c =
    let below : adds n (get_or xs c.0 n) ≤ times n xs = get_or-le-sum_by (adds n) xs c.0 n c.1 in
    let one = adds_one n (get_or xs c.0 n) c.2 in
    omega arith

-- and what stands there is contained
pub there_times : (n : ℕ) (xs : List ℕ) → 1 ≤ times n xs → Contains xs n
there_times n [] some = absurd (omega arith)
there_times n (x ∷ xs) some = elim (cases_eq x n) as (λ _. Contains (x ∷ xs) n) [
  | inl e ↦ (0, omega arith, e)
  | inr ne ↦
      let none : bit_of (x == n) ≡ 0 = ap bit_of (ne_eqb x n ne) in
      let cons = times-cons n x xs in
      let later = there_times n xs (omega arith) in
      (suc later.0, omega (arith, later.1), later.2)
]

-- a sum over a range to which nothing adds from some number on
pub sum_by_none : (f : ℕ → ℕ) (least : ℕ) → ((x : ℕ) → least ≤ x → f x ≡ 0) → (a len : ℕ) → least ≤ a → sum_by f (range_with_len a len) ≡ 0
sum_by_none f least none a zero past = refl
sum_by_none f least none a (suc len) past =
    let first = none a past in
    let rest = sum_by_none f least none (a + 1) len (omega arith) in
    sum_by-cons f a (range_with_len (a + 1) len) ∙ (omega arith)

-- and one to which one number alone adds
pub sum_by_one : (f : ℕ → ℕ) (n : ℕ) → ((x : ℕ) → x ≢ n → f x ≡ 0) → (a len : ℕ) → a ≤ n → n < a + len → sum_by f (range_with_len a len) ≡ f n
sum_by_one f n other a zero low high = absurd (omega arith)
sum_by_one f n other a (suc len) low high = sum_by-cons f a (range_with_len (a + 1) len) ∙ elim (cases_eq a n) as (λ _. f a + sum_by f (range_with_len (a + 1) len) ≡ f n) [
  | inl e ↦ let rest = sum_by_none f (suc n) (λ x h. other x (λ e. omega arith)) (a + 1) len (omega arith) in let same = ap f e in omega arith
  | inr ne ↦ let none = other a ne in let rest = sum_by_one f n other (a + 1) len (omega arith) (omega arith) in omega arith
]

-- how often it stands on lists that are joined
times_joined : (n : ℕ) (f : ℕ → List ℕ) (xs : List ℕ) → times n (flat_map f xs) ≡ sum_by (λ x. times n (f x)) xs
times_joined n f [] = refl
times_joined n f (x ∷ xs) =
    ap (times n) (flat_map-cons f x xs)
    ∙ times-append n (f x) (flat_map f xs)
    ∙ ap (λ k. times n (f x) + k) (times_joined n f xs)
    ∙ sym (sum_by-cons (λ y. times n (f y)) x xs)

pub times-concat : (n : ℕ) (f : ℕ → List ℕ) (xs : List ℕ) → times n (concat (map f xs)) ≡ sum_by (λ x. times n (f x)) xs
times-concat n f xs = ap (times n) (concat_is (map f xs) ∙ flat_map-map (λ x. x) f xs) ∙ times_joined n f xs

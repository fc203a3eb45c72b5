-- Lists without what doesn't pass.
use Rattle.std.proofs.Common.{◌≡◌, ℕ, ◌==◌, ◌&&◌, inl, inr, Bool, true, false, not, List, [], ◌∷◌}
use Rattle.std.proofs.Common.{◌++◌, filter, find, cond, Some, refl, sym, ap, ◌∙◌}
use Rattle.std.proofs.Math.Bool.{and_comm}
use Rattle.std.proofs.Math.Path.{fun_ext}
use Rattle.std.proofs.lemmas.Bool.{cases_Bool, eqb-true, true≢false, false_from_ne_true}
use Rattle.std.proofs.lemmas.List.{append-nil}
use Rattle.std.proofs.lemmas.List.Elements.{filter-append}

-- what passes two tests
pub filters : (p q : ℕ → Bool) (xs : List ℕ)
    → filter p (filter q xs) ≡ filter (λ x. q x && p x) xs
filters p q [] = refl
filters p q (x ∷ xs) = by_case (q x) (filters p q xs)
  where
    by_case : (b : Bool) → filter p (filter q xs) ≡ filter (λ y. q y && p y) xs
        → filter p (cond b (x ∷ filter q xs) (filter q xs))
        ≡ cond (b && p x) (x ∷ filter (λ y. q y && p y) xs) (filter (λ y. q y && p y) xs)
    by_case true rest = ap (λ ys. cond (p x) (x ∷ ys) ys) rest
    by_case false rest = rest

-- without one, before and after a test
pub without_same : (on gone : ℕ → Bool) (xs : List ℕ)
    → filter on (filter gone xs) ≡ filter gone (filter on xs)
without_same on gone xs =
    filters on gone xs
    ∙ ap (λ f. filter f xs) (fun_ext λ x. and_comm (gone x) (on x))
    ∙ sym (filters gone on xs)

-- without one that doesn't pass
pub without_off : (on : ℕ → Bool) (segment : ℕ) (xs : List ℕ) → on segment ≡ false
    → filter on (filter (λ other. not (other == segment)) xs) ≡ filter on xs
without_off on segment xs off =
    filters on (λ other. not (other == segment)) xs
    ∙ ap (λ f. filter f xs) (fun_ext λ x. kept x)
  where
    kept : (x : ℕ) → (not (x == segment) && on x) ≡ on x
    kept x = elim (cases_Bool (x == segment)) as (λ _. (not (x == segment) && on x) ≡ on x) [
      | inl t ↦
          ap (λ b. not b && on x) t ∙ sym (ap on (eqb-true x segment t) ∙ off)
      | inr f ↦ ap (λ b. not b && on x) f
    ]

pub pushed_off : (on : ℕ → Bool) (segment : ℕ) (xs : List ℕ) → on segment ≡ false
    → filter on (xs ++ segment ∷ []) ≡ filter on xs
pushed_off on segment xs off =
    filter-append on xs (segment ∷ [])
    ∙ ap (λ b. filter on xs ++ cond b (segment ∷ []) []) off
    ∙ append-nil (filter on xs)

-- a search among what is of the side
pub find_on : (f on : ℕ → Bool) (xs : List ℕ) → ((x : ℕ) → f x ≡ true → on x ≡ true)
    → find f (filter on xs) ≡ find f xs
find_on f on [] each = refl
find_on f on (x ∷ xs) each =
    let passed = filter on xs in
    elim (cases_Bool (on x)) as
    (λ _. find f (cond (on x) (x ∷ passed) passed) ≡ cond (f x) (Some x) (find f xs)) [
      | inl o ↦
          ap (λ b. find f (cond b (x ∷ passed) passed)) o
          ∙ ap (λ y. cond (f x) (Some x) y) (find_on f on xs each)
      | inr off ↦
          ap (λ b. find f (cond b (x ∷ passed) passed)) off
          ∙ find_on f on xs each
          ∙ sym (ap (λ b. cond b (Some x) (find f xs))
          (false_from_ne_true (f x) (λ t. true≢false (sym (each x t) ∙ off))))
    ]

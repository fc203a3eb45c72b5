-- Which indexes `format` frees.
use Rattle.std.proofs.Common.{◌≡◌, ℕ, zero, suc, ◌+◌, ◌<◌, ◌≤◌, Bool, true, false, not, cond, List, ◌∷◌, slice_index_or, refl, arith, subst, ◌⊎◌, inl, inr, ⊎_elim}
use Rattle.std.specs.Prelude.{Contains}
use Rattle.std.proofs.lemmas.Bool.{cases_eq}
use Rattle.hg_lists.proofs.RepeatsLemmas.{Contains-cons, Contains-cons_cases}
use Rattle.hg_page.specs.PageLists.{unworn}

-- an index that is freed is one of those asked for, and isn't worn
pub record IsUnworn (worn : List Bool) (from count index : ℕ) : Type 0 where
  pub low : from ≤ index
  pub high : index < from + count
  pub whole : slice_index_or worn index false ≡ false

step : (w : Bool) (x y : ℕ) (xs : List ℕ) → Contains (cond (not w) (x ∷ xs) xs) y → ((y ≡ x) × (w ≡ false)) ⊎ Contains xs y
step true x y xs c = inr c
step false x y xs c = ⊎_elim (λ e. inl (e, refl)) (λ r. inr r) (Contains-cons_cases x y xs c)

kept : (w : Bool) (x y : ℕ) (xs : List ℕ) → Contains xs y → Contains (cond (not w) (x ∷ xs) xs) y
kept true x y xs c = c
kept false x y xs c = Contains-cons x y xs c

found : (w : Bool) (x : ℕ) (xs : List ℕ) → w ≡ false → Contains (cond (not w) (x ∷ xs) xs) x
found true x xs e = cc
found false x xs e = (0, omega arith, refl)

pub unworn_listed : (worn : List Bool) (from count index : ℕ) → Contains (unworn worn from count) index → IsUnworn worn from count index
unworn_listed worn from zero index c = absurd (omega (arith, c.1))
unworn_listed worn from (suc n) index c = ⊎_elim
    (λ e. record { low = omega (arith, e.0); high = omega (arith, e.0); whole = rw e.0 e.1 })
    (λ r. let rest = unworn_listed worn (from + 1) n index r in record { low = omega (arith, rest.low); high = omega (arith, rest.high); whole = rest.whole })
    (step (slice_index_or worn from false) from index (unworn worn (from + 1) n) c)

pub Contains-unworn : (worn : List Bool) (from count index : ℕ) → IsUnworn worn from count index → Contains (unworn worn from count) index
Contains-unworn worn from zero index u = absurd (omega (arith, u.low, u.high))
Contains-unworn worn from (suc n) index u = elim (cases_eq index from) [
  | inl e ↦ rw e (found (slice_index_or worn from false) from (unworn worn (from + 1) n) (subst (λ (i : ℕ). slice_index_or worn i false ≡ false) e u.whole))
  | inr ne ↦ kept (slice_index_or worn from false) from index (unworn worn (from + 1) n) (Contains-unworn worn (from + 1) n index (record { low = omega (arith, u.low, ne); high = omega (arith, u.high); whole = u.whole }))
]

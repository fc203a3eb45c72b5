-- Whether a number is on a list, by a test.
use Rattle.std.proofs.Common.{◌≡◌, ℕ, ◌==◌, true, false, ◌||◌, List, [], ◌∷◌, refl, sym, ap, ◌∙◌}
use Rattle.std.proofs.Common.{inl, inr, ⊎_elim}
use Rattle.std.specs.Prelude.{Contains}
use Rattle.std.specs.List.{list_any}
use Rattle.std.proofs.lemmas.Bool.{cases_eq, eq-eqb, ne_eqb}
use Rattle.hg_lists.specs.Repeats.{Lacks, IsIn}
use Rattle.hg_lists.proofs.RepeatsLemmas.{Contains-in, in_contains, in_cases, Lacks-not}

-- a test finds the number that is on a list
any_in : (at : ℕ) (xs : List ℕ) → IsIn at xs → list_any (λ n. n == at) xs ≡ true
any_in at [] on = absurd on
any_in at (x ∷ xs) on = elim (cases_eq x at) [
  | inl e ↦ ap (λ b. b || list_any (λ n. n == at) xs) (eq-eqb x at e)
  | inr ne ↦ ap (λ b. b || list_any (λ n. n == at) xs) (ne_eqb x at ne)
      ∙ any_in at xs (⊎_elim (λ e. absurd (ne (sym e))) (λ rest. rest) on)
]

any_lacks : (at : ℕ) (xs : List ℕ) → Lacks at xs → list_any (λ n. n == at) xs ≡ false
any_lacks at [] off = refl
any_lacks at (x ∷ xs) off =
    ap (λ b. b || list_any (λ n. n == at) xs) (ne_eqb x at (λ e. off.0 (sym e)))
    ∙ any_lacks at xs off.1

-- and so on two lists that have the same
pub any_same : (at : ℕ) (xs ys : List ℕ) → (Contains xs at → Contains ys at)
    → (Contains ys at → Contains xs at)
    → list_any (λ n. n == at) xs ≡ list_any (λ n. n == at) ys
any_same at xs ys to from = ⊎_elim
    (λ on. any_in at xs on ∙ sym (any_in at ys (in_contains at ys (to (Contains-in at xs on)))))
    (λ off. ⊎_elim
    (λ on. absurd (Lacks-not at xs off (in_contains at xs (from (Contains-in at ys on)))))
    (λ too. any_lacks at xs off ∙ sym (any_lacks at ys too))
    (in_cases at ys))
    (in_cases at xs)

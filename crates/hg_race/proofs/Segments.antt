-- Whether a segment is of the first arena, by the arena of each.
use Rattle.std.proofs.Common.{◌≡◌, ◌≢◌, ℕ, zero, suc, ◌==◌, ◌+◌, ◌<◌, ◌||◌, Bool, true, false, List, [], ◌∷◌}
use Rattle.std.proofs.Common.{length, slice_get, refl, sym, ap, subst, ◌∙◌, arith, inl, inr}
use Rattle.std.proofs.lemmas.Bool.{cases_Bool, eqb-true, eq-eqb}
use Rattle.std.specs.List.{list_any}
use Rattle.hg_race.specs.Fit.{is_first}

or_true : (one : Bool) {other : Bool} → other ≡ true → (one || other) ≡ true
or_true true e = refl
or_true false e = e

pub some_is_first : (arenas : List ℕ) (k : ℕ) → is_first (slice_get arenas k) ≡ true
    → list_any (λ arena. arena == 0) arenas ≡ true
some_is_first [] k e = absurd (cc)
some_is_first (arena ∷ arenas) zero e = ap (λ b. b || list_any (λ arena. arena == 0) arenas) e
some_is_first (arena ∷ arenas) (suc k) e = or_true (arena == 0) (some_is_first arenas k e)

pub none_is_first : (arenas : List ℕ)
    → ((k : ℕ) → k < length arenas → is_first (slice_get arenas k) ≡ false)
    → list_any (λ arena. arena == 0) arenas ≡ false
none_is_first [] none = refl
none_is_first (arena ∷ arenas) none =
    ap (λ b. b || list_any (λ arena. arena == 0) arenas) (none 0 (omega arith))
    ∙ none_is_first arenas (λ k low. none (suc k) (omega (arith, low)))

-- what is so of none below a number, and not of that either
pub one_more : (P : ℕ → Bool) (n : ℕ) → ((k : ℕ) → k < n → P k ≡ false) → P n ≡ false
    → (k : ℕ) → k < n + 1 → P k ≡ false
one_more P n below one k low = elim (cases_Bool (k == n)) as (λ _. P k ≡ false) [
  | inl same ↦ subst (λ j. P j ≡ false) (sym (eqb-true k n same)) one
  | inr differs ↦
      let apart : k ≢ n = λ same.
      let bad : true ≡ false = sym (eq-eqb k n same) ∙ differs in absurd (cc) in
      below k (omega (arith, low, apart))
]

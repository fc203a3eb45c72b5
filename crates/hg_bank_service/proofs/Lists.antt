-- Lists of which one entry is set.
use Rattle.std.proofs.Common.{◌≡◌, ℕ, zero, suc, List, [], ◌∷◌, ◌++◌, length, subst, Some, slice_get, slice_set, refl}
use Rattle.std.proofs.lemmas.Option.{none-some, same_Some}

-- the one that stands at a number
pub record IsAt {X : Type 0} (xs : List X) (i : ℕ) (x : X) : Type 0 where
  pub there : slice_get xs i ≡ Some x

-- where one was, there is the one that was set
pub here_set : {X : Type 0} (xs : List X) (i : ℕ) (x y : X) → slice_get xs i ≡ Some x
    → slice_get (slice_set xs i y) i ≡ Some y
here_set [] i x y there = absurd (none-some _ there)
here_set (z ∷ zs) zero x y there = refl
here_set (z ∷ zs) (suc i) x y there = here_set zs i x y there

pub is_set : {X : Type 0} (xs : List X) (i : ℕ) (y x : X) → slice_get (slice_set xs i y) i ≡ Some x
    → y ≡ x
is_set [] i y x e = absurd (none-some _ e)
is_set (z ∷ zs) zero y x e = same_Some y x e
is_set (z ∷ zs) (suc i) y x e = is_set zs i y x e

-- what is so of each at its number is so with one more, if it is of that at its own
pub each_more : {X : Type 0} (P : ℕ → X → Type 0) (xs : List X) (y : X)
    → ((k : ℕ) (x : X) → slice_get xs k ≡ Some x → P k x) → P (length xs) y
    → (k : ℕ) (x : X) → slice_get (xs ++ y ∷ []) k ≡ Some x → P k x
each_more P [] y all one zero x e = subst (P 0) (same_Some _ _ e) one
each_more P [] y all one (suc k) x e = absurd (none-some _ e)
each_more P (z ∷ zs) y all one zero x e = all 0 x e
each_more P (z ∷ zs) y all one (suc k) x e =
    each_more (λ k. P (suc k)) zs y (λ k. all (suc k)) one k x e

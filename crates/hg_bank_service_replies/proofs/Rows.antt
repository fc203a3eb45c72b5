-- What stands where in a list.
use Rattle.std.proofs.Common.{◌≡◌, ℕ, zero, suc, List, [], ◌∷◌, ◌++◌, map, Option, Some, None, MatchOption, slice_get, refl, ap, subst}
use Rattle.std.proofs.lemmas.Option.{none-some, same_Some}

-- what stands in a mapped list is of what stands there
pub of_map : {X Y : Type 0} (f : X → Y) (xs : List X) (k : ℕ) (y : Y) → slice_get (map f xs) k ≡ Some y → (x : X) × (slice_get xs k ≡ Some x) × (f x ≡ y)
of_map f [] k y e = absurd (none-some _ e)
of_map f (x ∷ xs) zero y e = (x, refl, same_Some (f x) y e)
of_map f (x ∷ xs) (suc k) y e = of_map f xs k y e

pub to_map : {X Y : Type 0} (f : X → Y) (xs : List X) (k : ℕ) (x : X) → slice_get xs k ≡ Some x → slice_get (map f xs) k ≡ Some (f x)
to_map f [] k x e = absurd (none-some _ e)
to_map f (z ∷ zs) zero x e = ap (λ w. Some (f w)) (same_Some z x e)
to_map f (z ∷ zs) (suc k) x e = to_map f zs k x e

-- what is said of what is there, by what it is
pub of_there : {X : Type 0} (No : Type 0) (Has : X → Type 0) (o : Option X) (x : X) → o ≡ Some x → MatchOption o No Has → Has x
of_there No Has None x is said = absurd (none-some x is)
of_there No Has (Some y) x is said = subst Has (same_Some y x is) said

-- what is so of each of a list up to one that is like another, and behind which others stood
pub each_but_last : {X : Type 0} (P : ℕ → X → Type 0) (below : List X) (was next : X) (gone : List X)
    → ((k : ℕ) (x : X) → slice_get ((below ++ was ∷ []) ++ gone) k ≡ Some x → P k x)
    → ((k : ℕ) → P k was → P k next)
    → (k : ℕ) (x : X) → slice_get (below ++ next ∷ []) k ≡ Some x → P k x
each_but_last P [] was next gone all like zero x e = subst (P 0) (same_Some next x e) (like 0 (all 0 was refl))
each_but_last P [] was next gone all like (suc k) x e = absurd (none-some x e)
each_but_last P (z ∷ zs) was next gone all like zero x e = all 0 x e
each_but_last P (z ∷ zs) was next gone all like (suc k) x e = each_but_last (λ j. P (suc j)) zs was next gone (λ j. all (suc j)) (λ j. like (suc j)) k x e

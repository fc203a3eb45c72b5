-- Where parts of a view stand of which one changes so and each other so.
use Rattle.std.proofs.Common.{◌≡◌, ◌≢◌, ◌⊎◌, ℕ, zero, suc, [], ◌∷◌, map, length, refl, sym, ap, inl, inr, ⊎_elim, arith}
use mathlib.Core.Option.{some, some-injective, some-ne-none}
use lib.ListN.{get_elem?}
use Rattle.atomic_table.proofs.Lists.{at_map}
use Rattle.hg_table.specs.declared.view.Part.{Part}
use Rattle.hg_table.specs.View.{View, but_one}
use Rattle.hg_table.proofs.Counted.{map_at}

pub one_is : (f g : Part → Part) (view : View) (by : ℕ) (a : Part) → get_elem? view by ≡ some a → get_elem? (but_one by f g view) by ≡ some (f a)
one_is f g [] by a e = absurd (some-ne-none a (sym e))
one_is f g (x ∷ view) zero a e = ap (λ z. some (f z)) (some-injective x a e)
one_is f g (x ∷ view) (suc by) a e = one_is f g view by a e

pub others_are : (f g : Part → Part) (view : View) (by j : ℕ) (a : Part) → j ≢ by → get_elem? view j ≡ some a → get_elem? (but_one by f g view) j ≡ some (g a)
others_are f g [] by j a not e = absurd (some-ne-none a (sym e))
others_are f g (x ∷ view) zero zero a not e = absurd (not refl)
others_are f g (x ∷ view) zero (suc j) a not e = at_map g view j a e
others_are f g (x ∷ view) (suc by) zero a not e = ap (λ z. some (g z)) (some-injective x a e)
others_are f g (x ∷ view) (suc by) (suc j) a not e = others_are f g view by j a (λ is. not (ap suc is)) e

-- each is of the one that stood there
pub stood_before : (f g : Part → Part) (view : View) (by j : ℕ) (b : Part) → get_elem? (but_one by f g view) j ≡ some b
    → (a : Part) × (get_elem? view j ≡ some a) × (((j ≡ by) × (f a ≡ b)) ⊎ ((j ≢ by) × (g a ≡ b)))
stood_before f g [] by j b e = absurd (some-ne-none b (sym e))
stood_before f g (x ∷ view) zero zero b e = (x, refl, inl (refl, some-injective (f x) b e))
stood_before f g (x ∷ view) zero (suc j) b e = let m = map_at g view j b e in (m.0, m.1, inr ((λ is. absurd (omega (arith, is))), m.2))
stood_before f g (x ∷ view) (suc by) zero b e = (x, refl, inr ((λ is. absurd (omega (arith, is))), some-injective (g x) b e))
stood_before f g (x ∷ view) (suc by) (suc j) b e =
    let m = stood_before f g view by j b e in
    (m.0, m.1, ⊎_elim (λ t. inl (ap suc t.0, t.1)) (λ t. inr ((λ is. t.0 (omega (arith, is))), t.1)) m.2)

-- where both functions are one
pub all_alike : (f : Part → Part) (view : View) (by : ℕ) → but_one by f f view ≡ map f view
all_alike f [] by = refl
all_alike f (x ∷ view) zero = refl
all_alike f (x ∷ view) (suc by) = ap (λ more. f x ∷ more) (all_alike f view by)

-- there are as many
mapped : (g : Part → Part) (view : View) → length (map g view) ≡ length view
mapped g [] = refl
mapped g (x ∷ view) = ap suc (mapped g view)

pub as_many : (f g : Part → Part) (view : View) (by : ℕ) → length (but_one by f g view) ≡ length view
as_many f g [] by = refl
as_many f g (x ∷ view) zero = ap suc (mapped g view)
as_many f g (x ∷ view) (suc by) = ap suc (as_many f g view by)

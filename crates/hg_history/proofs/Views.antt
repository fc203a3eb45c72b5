-- Lists read by `get_elem?`: after an entry was set, mapped, added or appended.
use Rattle.std.proofs.Common.{◌≡◌, ◌≢◌, ◌⊎◌, ℕ, zero, suc, ◌+◌, ◌<◌, List, [], ◌∷◌, ◌++◌, map}
use Rattle.std.proofs.Common.{length}
use Rattle.std.proofs.Common.{set, sym, refl, ap, subst, inl, inr, ⊎_elim, arith}
use mathlib.Core.Option.{some, some-injective, some-ne-none}
use lib.ListN.{get_elem?}

module _ {A : Type 0} where
  -- an entry after one was set is that one, or another that was there
  pub at_set : (l : List A) (i j : ℕ) (a b : A) → get_elem? (set l i a) j ≡ some b
      → ((j ≡ i) × (a ≡ b)) ⊎ ((j ≢ i) × (get_elem? l j ≡ some b))
  at_set [] i j a b e = absurd (some-ne-none b (sym e))
  at_set (x ∷ xs) zero zero a b e = inl (refl, some-injective a b e)
  at_set (x ∷ xs) zero (suc j) a b e = inr ((λ h. omega arith), e)
  at_set (x ∷ xs) (suc i) zero a b e = inr ((λ h. omega arith), e)
  at_set (x ∷ xs) (suc i) (suc j) a b e =
      ⊎_elim (λ t. inl (ap suc t.0, t.1)) (λ t. let n = t.0 in inr ((λ h. n (omega arith)), t.1))
      (at_set xs i j a b e)

  -- an entry of two lists is of the first, or so far behind it of the second
  pub at_append : (v w : List A) (j : ℕ) (b : A) → get_elem? (v ++ w) j ≡ some b
      → (get_elem? v j ≡ some b) ⊎ ((k : ℕ) × (j ≡ length v + k) × (get_elem? w k ≡ some b))
  at_append [] w j b e = inr (j, omega arith, e)
  at_append (x ∷ v) w zero b e = inl e
  at_append (x ∷ v) w (suc j) b e =
      ⊎_elim inl
      (λ (t : (k : ℕ) × (j ≡ length v + k) × (get_elem? w k ≡ some b)).
      inr (t.0, (let f = t.1 in omega arith), t.2)) (at_append v w j b e)

  pub at_first : (v w : List A) (j : ℕ) (b : A) → get_elem? v j ≡ some b
      → get_elem? (v ++ w) j ≡ some b
  at_first [] w j b e = absurd (some-ne-none b (sym e))
  at_first (x ∷ v) w zero b e = e
  at_first (x ∷ v) w (suc j) b e = at_first v w j b e

  pub at_second : (v w : List A) (k : ℕ) (b : A) → get_elem? w k ≡ some b
      → get_elem? (v ++ w) (length v + k) ≡ some b
  at_second [] w k b e =
      let none : k ≡ 0 + k = omega arith in subst (λ (z : ℕ). get_elem? w z ≡ some b) none e
  at_second (x ∷ v) w k b e =
      let one : suc (length v + k) ≡ suc (length v) + k = omega arith in
      subst (λ (z : ℕ). get_elem? (x ∷ v ++ w) z ≡ some b) one (at_second v w k b e)

  -- an entry of a list with one more is of the list, or that one
  pub at_last : (l : List A) (a b : A) (j : ℕ) → get_elem? (l ++ a ∷ []) j ≡ some b
      → (get_elem? l j ≡ some b) ⊎ ((j ≡ length l) × (a ≡ b))
  at_last [] a b zero e = inr (refl, some-injective a b e)
  at_last [] a b (suc j) e = absurd (some-ne-none b (sym e))
  at_last (x ∷ xs) a b zero e = inl e
  at_last (x ∷ xs) a b (suc j) e =
      ⊎_elim inl (λ (t : (j ≡ length xs) × (a ≡ b)). inr (ap suc t.0, t.1)) (at_last xs a b j e)

  pub at_below : (l : List A) (j : ℕ) (b : A) → get_elem? l j ≡ some b → j < length l
  at_below [] j b e = absurd (some-ne-none b (sym e))
  at_below (x ∷ l) zero b e = omega arith
  at_below (x ∷ l) (suc j) b e = let h = at_below l j b e in omega arith

  pub none_there : (l : List A) (j : ℕ) (b : A) → [] ≡ l → get_elem? l j ≡ some b → ⊥
  none_there l j b e has =
      some-ne-none b (sym (subst (λ (z : List A). get_elem? z j ≡ some b) (sym e) has))

  -- an entry of a mapped list is of one that was there
  pub at_map : {B : Type 0} (f : A → B) (l : List A) (j : ℕ) (b : B)
      → get_elem? (map f l) j ≡ some b → (a : A) × (get_elem? l j ≡ some a) × (f a ≡ b)
  at_map f [] j b e = absurd (some-ne-none b (sym e))
  at_map f (x ∷ xs) zero b e = (x, refl, some-injective (f x) b e)
  at_map f (x ∷ xs) (suc j) b e = at_map f xs j b e

  pub map_at : {B : Type 0} (f : A → B) (l : List A) (j : ℕ) (a : A) → get_elem? l j ≡ some a
      → get_elem? (map f l) j ≡ some (f a)
  map_at f [] j a e = absurd (some-ne-none a (sym e))
  map_at f (x ∷ xs) zero a e = ap (λ (y : A). some (f y)) (some-injective x a e)
  map_at f (x ∷ xs) (suc j) a e = map_at f xs j a e

  pub map_set : {B : Type 0} (f : A → B) (l : List A) (i : ℕ) (a : A)
      → map f (set l i a) ≡ set (map f l) i (f a)
  map_set f [] i a = refl
  map_set f (x ∷ xs) zero a = refl
  map_set {B} f (x ∷ xs) (suc i) a = ap (λ (l : List B). f x ∷ l) (map_set f xs i a)

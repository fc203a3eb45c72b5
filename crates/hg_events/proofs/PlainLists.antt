-- Lists of segments over plain words, as parts have them.
use Rattle.std.proofs.Common.{◌≡◌, ℕ, zero, suc, ◌==◌, Bool, true, false, cond, not, ◌||◌, List, []}
use Rattle.std.proofs.Common.{◌∷◌, ◌++◌, map, find, slice_get, refl, sym, ap, ◌∙◌, subst}
use Rattle.std.proofs.Common.{inl, inr}
use Rattle.std.specs.Prelude.{Option, Some}
use Rattle.std.specs.Option.{option_map}
use Rattle.std.specs.List.{AllByRecursion, list_any}
use Rattle.std.proofs.lemmas.Bool.{cases_Bool, or_right}
use Rattle.std.proofs.lemmas.Option.{none-some, same_Some}
use Rattle.hg_place.specs.declared.plain.PlainWords.{PlainWords}
use Rattle.hg_segment.specs.Kept.{Kept}
use Rattle.hg_segment.specs.Parted.{plain_number}
use Rattle.hg_pool.specs.Pooled.{without_number}
use Rattle.hg_agreement.specs.LeftPut.{numbers}
use Rattle.hg_agreement.specs.Parts.{Plain, plain_from}
use Rattle.hg_agreement.specs.Pool.{without}

abbrev pub K : Type 0
K = Kept PlainWords

-- one is found where the test says the same of each as the parts' test

found_step : (b : Bool) (x : K) (o : Option K) → cond b (Some (plain_from x)) (option_map plain_from
    o) ≡ option_map plain_from (cond b (Some x) o)
found_step true x o = refl
found_step false x o = refl

pub found_plain : (p : K → Bool) (q : Plain → Bool) (xs : List K)
    → AllByRecursion (λ x. q (plain_from x) ≡ p x) xs
    → find q (map plain_from xs) ≡ option_map plain_from (find p xs)
found_plain p q [] same = refl
found_plain p q (x ∷ xs) same =
    ap (λ b. cond b (Some (plain_from x)) (find q (map plain_from xs))) same.0
    ∙ ap (λ o. cond (p x) (Some (plain_from x)) o) (found_plain p q xs same.1)
    ∙ found_step (p x) x (find p xs)

pub each_such : (P : K → Type 0) (xs : List K) → ((x : K) → P x) → AllByRecursion P xs
each_such P [] f = tt
each_such P (x ∷ xs) f = (f x, each_such P xs f)

pub each_append : (P : K → Type 0) (xs ys : List K) → AllByRecursion P xs → AllByRecursion P ys
    → AllByRecursion P (xs ++ ys)
each_append P [] ys a b = b
each_append P (x ∷ xs) ys a b = (a.0, each_append P xs ys a.1 b)

-- what is so of each is so of the one that is found
pub found_such : (P : K → Type 0) (p : K → Bool) (xs : List K) (y : K) → AllByRecursion P xs
    → find p xs ≡ Some y → P y
found_such P p [] y all e = absurd (none-some y e)
found_such P p (x ∷ xs) y all e = elim (cases_Bool (p x)) [
  | inl t ↦
      let same : x ≡ y = same_Some x y (sym (ap (λ b. cond b (Some x) (find p xs)) t) ∙ e) in
      subst P same all.0
  | inr f ↦ found_such P p xs y all.1 (sym (ap (λ b. cond b (Some x) (find p xs)) f) ∙ e)
]

-- and of the one at an index
pub got_such : (P : ℕ → Type 0) (xs : List ℕ) (k y : ℕ) → AllByRecursion P xs
    → slice_get xs k ≡ Some y → P y
got_such P [] k y all e = absurd (none-some y e)
got_such P (x ∷ xs) zero y all e = subst P (same_Some x y e) all.0
got_such P (x ∷ xs) (suc k) y all e = got_such P xs k y all.1 e

-- one that is found passes each test that it meets
pub found_any : (p q : Plain → Bool) (xs : List Plain) (y : Plain) → find p xs ≡ Some y
    → q y ≡ true → list_any q xs ≡ true
found_any p q [] y e passes = absurd (none-some y e)
found_any p q (x ∷ xs) y e passes =
    elim (cases_Bool (p x)) [
      | inl t ↦
          let same : x ≡ y = same_Some x y (sym (ap (λ b. cond b (Some x) (find p xs)) t) ∙ e) in
          ap (λ b. b || list_any q xs) (ap q same ∙ passes)
      | inr f ↦ or_right (q x) (list_any q xs)
          (found_any p q xs y (sym (ap (λ b. cond b (Some x) (find p xs)) f) ∙ e) passes)
    ]

-- those of other numbers
pub without_plain : (n : ℕ) (xs : List K) → map plain_from (without_number plain_number n xs)
    ≡ without n (map plain_from xs)
without_plain n [] = refl
without_plain n (x ∷ xs) =
    elim (x.slots.segment == n) as (λ b. map plain_from (cond (not b)
    (x ∷ without_number plain_number n xs) (without_number plain_number n xs)) ≡ cond (not b)
    (plain_from x ∷ without n (map plain_from xs)) (without n (map plain_from xs))) [
      | true ↦ without_plain n xs
      | false ↦ ap (λ l. plain_from x ∷ l) (without_plain n xs)
    ]

pub numbers_plain : (xs : List K) → numbers (map plain_from xs) ≡ map (λ k. plain_number k.slots) xs
numbers_plain [] = refl
numbers_plain (x ∷ xs) = ap (λ l. x.slots.segment ∷ l) (numbers_plain xs)

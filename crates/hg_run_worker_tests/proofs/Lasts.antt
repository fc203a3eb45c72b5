-- The last of two.
use Rattle.std.proofs.Common.{◌≡◌, ◌∙◌, ℕ, zero, suc, List, [], ◌∷◌, ◌++◌, Some, length, slice_get, refl, ap, subst, arith, length-append}

last_of : {X : Type 0} (rest : List X) (x : X) → slice_get (rest ++ x ∷ []) (length rest) ≡ Some x
last_of [] x = refl
last_of (y ∷ rest) x = last_of rest x

pub second_last : {X : Type 0} (items rest : List X) (x : X) → items ≡ rest ++ x ∷ []
    → length items ≡ 2 → slice_get items 1 ≡ Some x
second_last items rest x e two =
    let long = ap length e ∙ length-append rest (x ∷ []) in
    let one : length rest ≡ 1 = omega (arith, long, two) in
    ap (λ xs. slice_get xs 1) e
    ∙ subst (λ n. slice_get (rest ++ x ∷ []) n ≡ Some x) one (last_of rest x)

-- The one before it.
pub first_of_two : {X : Type 0} (items rest rest2 : List X) (x y : X) → items ≡ rest ++ x ∷ []
    → rest ≡ rest2 ++ y ∷ [] → length items ≡ 2 → slice_get items 0 ≡ Some y
first_of_two items rest [] x y e f two = ap (λ xs. slice_get xs 0) (e ∙ ap (λ r. r ++ x ∷ []) f)
first_of_two items rest (z ∷ zs) x y e f two =
    let a = ap length e ∙ length-append rest (x ∷ []) in
    let b = ap length f ∙ length-append (z ∷ zs) (y ∷ []) in
    absurd (omega (arith, a, b, two))

-- what stands in a list of one or two
pub of_one : {X : Type 0} (P : X → Type 0) (x : X) → P x → (k : ℕ) (y : X)
    → slice_get (x ∷ []) k ≡ Some y → P y
of_one P x p zero y e = let same : x ≡ y = cc in subst P same p
of_one P x p (suc k) y e = absurd (cc)

pub of_two : {X : Type 0} (P : X → Type 0) (x z : X) → P x → P z → (k : ℕ) (y : X)
    → slice_get (x ∷ z ∷ []) k ≡ Some y → P y
of_two P x z p q zero y e = let same : x ≡ y = cc in subst P same p
of_two P x z p q (suc k) y e = of_one P z q k y e

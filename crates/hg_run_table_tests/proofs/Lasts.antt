-- The last of two, and the seat of a worker and a segment.
use mathlib.Core.Option.{some-injective}
use Rattle.hg_agreement.specs.Views.{View}
use Rattle.hg_history.specs.Service.{IsIn}
use Rattle.hg_roles.specs.Deciding.{IsSeatOf}
use Rattle.hg_roles.specs.Roles.{Call, Role, of_worker, of_segment}
use Rattle.std.proofs.Common.{◌≡◌, ◌⊎◌, ℕ, zero, suc, inl, inr, sym, List, [], ◌∷◌, ◌++◌, Some, length, slice_get}
use Rattle.std.proofs.Common.{refl, ap, subst, ◌∙◌, arith, length-append}

last_of : {X : Type 0} (rest : List X) (x : X) → slice_get (rest ++ x ∷ []) (length rest) ≡ Some x
last_of [] x = refl
last_of (y ∷ rest) x = last_of rest x

pub second_last : {X : Type 0} (items rest : List X) (x : X) → items ≡ rest ++ x ∷ []
    → length items ≡ 2 → slice_get items 1 ≡ Some x
second_last items rest x e two =
    let long = ap length e ∙ length-append rest (x ∷ []) in
    let one : length rest ≡ 1 = omega (arith, long, two) in
    ap (λ xs. slice_get xs 1) e
    ∙ subst (λ n. slice_get (rest ++ x ∷ []) n ≡ Some x) one (last_of rest x)

pub seat_of : (view : View) (log : List Call) (segment : ℕ)
    → IsSeatOf view log (of_worker view log ∷ of_segment segment ∷ [])
seat_of view log segment = record { place = 0; there = refl; others = others }
  where
    others : (j : ℕ) (part : Role) → IsIn (of_worker view log ∷ of_segment segment ∷ []) j part
        → (part ≡ of_worker view log) ⊎ ((number : ℕ) × (part ≡ of_segment number))
    others zero part here = inl (sym (some-injective (of_worker view log) part here))
    others (suc zero) part here =
        inr (segment, sym (some-injective (of_segment segment) part here))
    others (suc (suc j)) part here = absurd (cc)

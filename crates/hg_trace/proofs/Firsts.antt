-- The first place that passes a test.
use Rattle.std.proofs.Common.{◌≡◌, ℕ, ◌<◌, Bool, true, false, not, ltb, List, length, Option, Some, None, arith, refl, inl, inr}
use Rattle.std.specs.Prelude.{unwrap_or, position}
use Rattle.std.specs.List.{position_or_len}
use Rattle.std.proofs.lemmas.List.Sums.{prefix_len-le-length, position_or_len_is}
use Rattle.std.proofs.lemmas.Bool.{cases_Bool}
use Rattle.memchr.specs.Find.{IsFirstByte}
use borrow.Author.Tests.{ltb-true, ltb-false}

-- the place, or the length where nothing passes
pub unwrap_or_position : {X : Type 0} (p : X → Bool) (xs : List X) → unwrap_or (position p xs) (length xs) ≡ position_or_len p xs
unwrap_or_position p xs =
    let within = prefix_len-le-length (λ x. not (p x)) xs in
    elim (cases_Bool (ltb (position_or_len p xs) (length xs))) [
      | inl e ↦ rw e refl
      | inr e ↦ rw e (omega (arith, ltb-false _ _ e))
    ]

pub position_some : {X : Type 0} (p : X → Bool) (xs : List X) (i : ℕ) → Some i ≡ position p xs → (i ≡ position_or_len p xs) × (position_or_len p xs < length xs)
position_some p xs i found =
    elim (cases_Bool (ltb (position_or_len p xs) (length xs))) [
      | inl e ↦ let here = rw e at found in (cc, ltb-true _ _ e)
      | inr e ↦ let here = rw e at found in absurd (cc)
    ]

pub position_none : {X : Type 0} (p : X → Bool) (xs : List X) → None ≡ position p xs → position_or_len p xs ≡ length xs
position_none p xs found =
    let within = prefix_len-le-length (λ x. not (p x)) xs in
    elim (cases_Bool (ltb (position_or_len p xs) (length xs))) [
      | inl e ↦ let here = rw e at found in absurd (cc)
      | inr e ↦ omega (arith, ltb-false _ _ e)
    ]

failed : (b : Bool) → ¬ (b ≡ true) → b ≡ false
failed true h = absurd (h refl)
failed false h = refl

-- a search for a byte gives that place
pub position_found : (p : ℕ → Bool) (xs : List ℕ) (r : Option ℕ) → IsFirstByte p xs r → r ≡ position p xs
position_found p xs None h =
    let first : position_or_len p xs ≡ length xs =
    position_or_len_is p xs (length xs) 0 (omega arith) (λ k below. failed _ (h k (omega arith) below)) (λ below. absurd (omega (arith, below))) in
    elim (cases_Bool (ltb (position_or_len p xs) (length xs))) [
      | inl e ↦ absurd (omega (arith, first, ltb-true _ _ e))
      | inr e ↦ rw e refl
    ]
position_found p xs (Some i) h =
    let first : position_or_len p xs ≡ i =
    position_or_len_is p xs i 0 (omega (arith, h.0.high)) (λ k below. failed _ (h.0.before k (omega arith) below)) (λ below. h.1) in
    elim (cases_Bool (ltb (position_or_len p xs) (length xs))) [
      | inl e ↦ rw (e, first) refl
      | inr e ↦ absurd (omega (arith, first, h.0.high, ltb-false _ _ e))
    ]

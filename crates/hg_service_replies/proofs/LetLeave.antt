-- Workers that are let leave, one after another.
use Rattle.std.proofs.Common.{◌≡◌, ℕ, zero, suc, ◌+◌, ◌<◌, ◌≤◌, List, [], ◌∷◌, Some, slice_get, slice_set, arith, below_more, sym, subst, ◌∙◌}
use Rattle.std.proofs.lemmas.Option.{none-some, same_Some}
use Rattle.hg_hosted.proofs.Reaching.{other_set}

at_set : {X : Type 0} (xs : List X) (i : ℕ) (y x : X) → slice_get (slice_set xs i y) i ≡ Some x → y ≡ x
at_set [] zero y x e = absurd (none-some _ e)
at_set [] (suc i) y x e = absurd (none-some _ e)
at_set (z ∷ zs) zero y x e = same_Some y x e
at_set (z ∷ zs) (suc i) y x e = at_set zs i y x e

module _ {X : Type 0} (P : X → X → Type 0) (old now : List X) (at : ℕ) (held left : X)
    (there : slice_get now at ≡ Some held) (one : P held left)
    (rest : (k : ℕ) → at ≤ k → slice_get now k ≡ slice_get old k) where
  -- what is so of those below is so of one more
  pub each_next :
      ((k : ℕ) → k < at → (was is : X) → slice_get old k ≡ Some was → slice_get now k ≡ Some is
      → P was is)
      → (k : ℕ) → k < at + 1 → (was is : X) → slice_get old k ≡ Some was
      → slice_get (slice_set now at left) k ≡ Some is → P was is
  each_next each =
      below_more
      (λ k. (was is : X) → slice_get old k ≡ Some was
      → slice_get (slice_set now at left) k ≡ Some is → P was is) at
      (λ k lt was is before after. each k lt was is before
      (sym (other_set now at k left (λ same. absurd (omega (arith, lt, same)))) ∙ after))
      (λ was is before after. subst (λ a. P a is)
      (same_Some held was (sym there ∙ rest at (omega arith) ∙ before))
      (subst (P held) (at_set now at left is after) one))

  pub rest_next : (k : ℕ) → at + 1 ≤ k → slice_get (slice_set now at left) k ≡ slice_get old k
  rest_next k le = other_set now at k left (λ same. absurd (omega (arith, le, same))) ∙ rest k (omega (arith, le))

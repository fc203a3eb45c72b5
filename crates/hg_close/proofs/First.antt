-- The segment of a pool that stands first, and another that comes in the place of one.
use Rattle.std.proofs.Common.{◌≡◌, ◌≢◌, ℕ, Bool, not, cond, List, [], ◌∷◌}
use Rattle.std.proofs.Common.{find, filter, slice_get, Some, None, refl, sym, ap, ◌∙◌}
use Rattle.std.proofs.Common.{inl, inr}
use Rattle.std.proofs.lemmas.Bool.{cases_Bool, eq-eqb}
use Rattle.std.proofs.lemmas.List.{map-append}
use Rattle.std.proofs.lemmas.Option.{same_Some, none-some}
use Rattle.hg_segment.specs.Kept.{Kept}
use Rattle.hg_pool.specs.Pooled.{Pooled, first_in, is_numbered, replaced, segment_of}
use Rattle.hg_pool.specs.Pooled.{with_segment, without_number, without_segment}
use Rattle.hg_close.proofs.Founds.{all_in}

-- a list that begins
pub begins : {X : Type 0} (xs : List X) (x : X) → slice_get xs 0 ≡ Some x
    → (rest : List X) × (xs ≡ x ∷ rest)
begins [] x e = absurd (none-some x e)
begins (y ∷ ys) x e = (ys, ap (λ z. z ∷ ys) (same_Some y x e))

pub begins_none : {X : Type 0} (xs : List X) → slice_get xs 0 ≡ None → xs ≡ []
begins_none [] e = refl
begins_none (y ∷ ys) e = absurd (none-some y (sym e))

module _ {S : Type 0} (number : S → ℕ) where
  first_found : (ks : List (Kept S)) (one : Kept S) (n : ℕ) → slice_get ks 0 ≡ Some one
      → number one.slots ≡ n → find (is_numbered number n) ks ≡ Some one
  first_found [] one n e is = absurd (none-some one e)
  first_found (k ∷ ks) one n e is =
      let same : k ≡ one = same_Some k one e in
      ap (λ b. cond b (Some k) (find (is_numbered number n) ks))
      (eq-eqb (number k.slots) n (ap (λ (j : Kept S). number j.slots) same ∙ is)) ∙ ap Some same

  -- it is the one of its number
  pub first_of : (pool : Pooled S) (one : Kept S) (n : ℕ) → first_in pool ≡ Some one
      → number one.slots ≡ n → segment_of number pool n ≡ Some one
  first_of pool one n e is = first_found (all_in number pool) one n e is

  -- with another in its place that stands first
  first_replaced : (ks : List (Kept S)) (one after : Kept S) (n : ℕ) → slice_get ks 0 ≡ Some one
      → number one.slots ≡ n → slice_get (replaced number n after ks) 0 ≡ Some after
  first_replaced [] one after n e is = absurd (none-some one e)
  first_replaced (k ∷ ks) one after n e is =
      let same : k ≡ one = same_Some k one e in
      ap (λ b. Some (cond b after k))
      (eq-eqb (number k.slots) n (ap (λ (j : Kept S). number j.slots) same ∙ is))

  pub first_then : (pool : Pooled S) (one after : Kept S) (n : ℕ) → first_in pool ≡ Some one
      → number one.slots ≡ n → first_in (with_segment number pool n after) ≡ Some after
  first_then pool one after n e is =
      ap (λ ks. slice_get ks 0)
      (sym (map-append (λ k. cond (is_numbered number n k) after k) pool.orphans pool.fresh))
      ∙ first_replaced (all_in number pool) one after n e is

  -- which is gone with the number
  without_replaced : (ks : List (Kept S)) (after : Kept S) (n : ℕ) → number after.slots ≡ n
      → without_number number n (replaced number n after ks) ≡ without_number number n ks
  without_replaced [] after n is = refl
  without_replaced (k ∷ ks) after n is =
      let p : Kept S → Bool = λ j. not (is_numbered number n j) in
      let rest = without_replaced ks after n is in
      elim (cases_Bool (is_numbered number n k))
      as (λ _. without_number number n (replaced number n after (k ∷ ks))
      ≡ without_number number n (k ∷ ks)) [
        | inl hit ↦
            ap (λ b. filter p (cond b after k ∷ replaced number n after ks)) hit
            ∙ ap (λ b. cond (not b) (after ∷ filter p (replaced number n after ks))
            (filter p (replaced number n after ks))) (eq-eqb (number after.slots) n is)
            ∙ rest
            ∙ sym (ap (λ b. cond (not b) (k ∷ filter p ks) (filter p ks)) hit)
        | inr miss ↦
            ap (λ b. filter p (cond b after k ∷ replaced number n after ks)) miss
            ∙ ap (λ b. cond (not b) (k ∷ filter p (replaced number n after ks))
            (filter p (replaced number n after ks))) miss
            ∙ ap (λ xs. k ∷ xs) rest
            ∙ sym (ap (λ b. cond (not b) (k ∷ filter p ks) (filter p ks)) miss)
      ]

  pub without_then : (pool : Pooled S) (after : Kept S) (n : ℕ) → number after.slots ≡ n
      → without_segment number (with_segment number pool n after) n
      ≡ without_segment number pool n
  without_then pool after n is =
      ap (λ (ks : List (Kept S)). let p : Pooled S = record {
        orphans = ks;
        fresh = without_number number n (replaced number n after pool.fresh);
      } in p) (without_replaced pool.orphans after n is)
      ∙ ap (λ (ks : List (Kept S)). let p : Pooled S = record {
        orphans = without_number number n pool.orphans;
        fresh = ks;
      } in p) (without_replaced pool.fresh after n is)

  -- there are orphans as before
  pub none_replaced : (ks : List (Kept S)) (after : Kept S) (n : ℕ) → ks ≡ []
      → replaced number n after ks ≡ []
  none_replaced ks after n e = ap (replaced number n after) e

  pub some_replaced : (ks : List (Kept S)) (after : Kept S) (n : ℕ) → ks ≢ []
      → replaced number n after ks ≢ []
  some_replaced [] after n ne e = ne refl
  some_replaced (k ∷ ks) after n ne e = absurd (cc)

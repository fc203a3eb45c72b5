-- A segment of a pool comes in the place of the one of its number.
use Rattle.std.proofs.Common.{◌≡◌, ◌⊎◌, ℕ, ◌++◌, ◌∷◌, [], Bool, cond, List, refl}
use Rattle.std.proofs.Common.{Some, sym, ap, subst, ◌∙◌, arith, inl, inr, ⊎_elim}
use Rattle.std.specs.Prelude.{Contains}
use Rattle.std.specs.List.{position_or_len}
use Rattle.std.proofs.lemmas.Bool.{cases_Bool}
use Rattle.std.proofs.lemmas.List.{map-append}
use Rattle.std.proofs.lemmas.List.Elements.{Contains-append_cases, Contains-append_right}
use Rattle.std.proofs.lemmas.List.Folds.{find_at}
use Rattle.hg_machine.specs.Policy.{Policy, arena_of}
use Rattle.hg_segment.specs.Kept.{Kept}
use Rattle.hg_heap.specs.Policies.{AreOf, IsOf}
use Rattle.hg_heap.proofs.Founds.{Contains-get}
use Rattle.hg_pool.specs.Pooled.{Pooled, is_numbered, replaced, segment_of, with_segment}
use Rattle.hg_worker.proofs.Pools.{only}

module _ {S : Type 0} (number : S → ℕ) where
  -- what stands there then stood there, or has come
  replaced_cases : (ks : List (Kept S)) (after k : Kept S) (n : ℕ)
      → Contains (replaced number n after ks) k → (after ≡ k) ⊎ Contains ks k
  replaced_cases [] after k n c = inr c
  replaced_cases (x ∷ xs) after k n c =
      ⊎_elim
      (λ (l : Contains (cond (is_numbered number n x) after x ∷ []) k).
      let e = only (cond (is_numbered number n x) after x) k l in
      elim (cases_Bool (is_numbered number n x)) [
        | inl hit ↦ inl (sym (ap (λ b. cond b after x) hit) ∙ e)
        | inr miss ↦ inr (subst (λ j. Contains (x ∷ xs) j) (sym (ap (λ b. cond b after x) miss) ∙ e)
            (0, omega arith, refl))
      ])
      (λ (r : Contains (replaced number n after xs) k).
      ⊎_elim (λ (e : after ≡ k). inl e)
      (λ (d : Contains xs k). inr (Contains-append_right (x ∷ []) xs k d))
      (replaced_cases xs after k n r))
      (Contains-append_cases (cond (is_numbered number n x) after x ∷ [])
      (replaced number n after xs) k c)

  -- the segment of a number stands there
  pub standing : (pool : Pooled S) (n : ℕ) (one : Kept S) → segment_of number pool n ≡ Some one
      → Contains (pool.orphans ++ pool.fresh) one
  standing pool n one e =
      let p : Kept S → Bool = is_numbered number n in
      let ks = pool.orphans ++ pool.fresh in
      Contains-get ks (position_or_len p ks) one (sym (find_at p ks) ∙ e)

  -- what a pool has then it had, or that one
  pub then_cases : (pool : Pooled S) (after k : Kept S) (n : ℕ)
      → Contains ((with_segment number pool n after).orphans
      ++ (with_segment number pool n after).fresh) k
      → (after ≡ k) ⊎ Contains (pool.orphans ++ pool.fresh) k
  then_cases pool after k n c =
      replaced_cases (pool.orphans ++ pool.fresh) after k n
      (subst (λ ks. Contains ks k)
      (sym (map-append (λ j. cond (is_numbered number n j) after j) pool.orphans pool.fresh)) c)

  -- so all are as the policy has them, where that one is
  pub pool_then : (policy : Policy) (pool : Pooled S) (after : Kept S) (n : ℕ)
      → AreOf number policy (pool.orphans ++ pool.fresh) → IsOf number policy after
      → AreOf number policy
      ((with_segment number pool n after).orphans ++ (with_segment number pool n after).fresh)
  pool_then policy pool after n of here =
      record {
        arena = λ k c. ⊎_elim
            (λ (e : after ≡ k).
            subst (λ (j : Kept S). arena_of policy (number j.slots) ≡ Some j.arena) e here.0)
            (λ (d : Contains (pool.orphans ++ pool.fresh) k). of.arena k d)
            (then_cases pool after k n c);
        greatest = λ k c. ⊎_elim
            (λ (e : after ≡ k).
            subst (λ (j : Kept S). j.greatest ≡ policy.max_generation) e here.1)
            (λ (d : Contains (pool.orphans ++ pool.fresh) k). of.greatest k d)
            (then_cases pool after k n c);
      }

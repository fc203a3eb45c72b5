-- Segments looked at one by one, whether a policy gives them what they have.
use Rattle.std.proofs.Common.{◌≡◌, sym, subst, ℕ, ◌+◌, ◌<◌, ◌≤◌, true, false, List, length, refl}
use Rattle.std.proofs.Common.{IsTrue, All, Contains, take, get_or}
use Rattle.std.proofs.lemmas.Bool.{false≢true}
use Rattle.std.proofs.lemmas.List.{take_all}
use Rattle.std.proofs.lemmas.List.Elements.{All-more, All-contains, Contains-get_or}
use Rattle.hg_machine.specs.Policy.{Policy}
use Rattle.hg_segment.specs.Kept.{Kept}
use Rattle.hg_heap.specs.Policies.{IsOf, AreOf}

module _ {S : Type 0} (number : S → ℕ) (policy : Policy) where
  -- one that isn't so
  pub not_one :
      (ks : List (Kept S)) (i : ℕ) (k : Kept S) → i < length ks → k ≡ get_or ks i k
      → (IsOf number policy k → false ≡ true)
      → (IsTrue false → AreOf number policy ks) × (AreOf number policy ks → IsTrue false)
  not_one ks i k within is not =
      let there : Contains ks k =
      subst (λ (x : Kept S). Contains ks x) (sym is) (Contains-get_or ks i k within) in
      (λ wrong. absurd (false≢true wrong), λ are. not (are.arena k there, are.greatest k there))

  pub one_more :
      (ks : List (Kept S)) (i : ℕ) (k : Kept S) → i < length ks → k ≡ get_or ks i k
      → All (IsOf number policy) (take i ks) → IsOf number policy k
      → All (IsOf number policy) (take (i + 1) ks)
  one_more ks i k within is all here =
      All-more (IsOf number policy) ks i k within all (subst (IsOf number policy) is here)

  pub all_are :
      (ks : List (Kept S)) (i : ℕ) → length ks ≤ i → All (IsOf number policy) (take i ks)
      → (IsTrue true → AreOf number policy ks) × (AreOf number policy ks → IsTrue true)
  all_are ks i past all =
      let each : All (IsOf number policy) ks =
      subst (All (IsOf number policy)) (take_all i ks past) all in
      let is_of : (k : Kept S) → Contains ks k → IsOf number policy k =
      λ k there. All-contains (IsOf number policy) ks k each there in (
        λ yes. record {
          arena = λ k there. (is_of k there).0;
          greatest = λ k there. (is_of k there).1;
        },
        λ are. refl,
      )

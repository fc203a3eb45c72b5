-- Workers in the places of their numbers: one more, and one put there.
use Rattle.std.proofs.Common.{◌≡◌, ℕ, zero, suc, ◌+◌, ◌<◌, true, List, [], ◌∷◌, ◌++◌, Option, Some, None}
use Rattle.std.proofs.Common.{length, refl, ap, subst, ◌∙◌, arith, slice_get, slice_set}
use Rattle.std.proofs.lemmas.Option.{same_Some, none-some}
use Rattle.hg_service.specs.declared.worker.Worker.{Worker}
use Rattle.hg_service.specs.Ready.{AreReady, IsNewOwn, is_ready}
use Rattle.hg_service.proofs.Opened.{each_more}

-- what is so of each at its index is so once one is put at an index, if it is of that there
set_each : {X : Type 0} (P : ℕ → X → Type 0) (xs : List X) (n : ℕ) (y : X)
    → ((k : ℕ) (x : X) → slice_get xs k ≡ Some x → P k x) → P n y
    → (k : ℕ) (x : X) → slice_get (slice_set xs n y) k ≡ Some x → P k x
set_each P [] zero y all one k x e = all k x e
set_each P [] (suc n) y all one k x e = all k x e
set_each P (z ∷ zs) zero y all one zero x e = subst (P 0) (same_Some _ _ e) one
set_each P (z ∷ zs) zero y all one (suc k) x e = all (suc k) x e
set_each P (z ∷ zs) (suc n) y all one zero x e = all 0 x e
set_each P (z ∷ zs) (suc n) y all one (suc k) x e =
    set_each (λ j. P (suc j)) zs n y (λ j. all (suc j)) one k x e

module _ {X : Type 0} (P : ℕ → X → Type 0) where
  -- it is so of each that is there
  abbrev Each : List (Option X) → Type 0
  Each xs = (k : ℕ) (x : X) → slice_get xs k ≡ Some (Some x) → P k x

  abbrev At : ℕ → Option X → Type 0
  At k o = (x : X) → o ≡ Some x → P k x

  each_of : (xs : List (Option X)) → Each xs → (k : ℕ) (o : Option X)
      → slice_get xs k ≡ Some o → At k o
  each_of xs each k o at x is = each k x (at ∙ ap Some is)

  pub put_each : (xs : List (Option X)) (n : ℕ) (one : X) → P n one → Each xs
      → Each (slice_set xs n (Some one))
  put_each xs n one is_so each k x e =
      set_each At xs n (Some one) (each_of xs each)
      (λ y is. subst (P n) (same_Some _ _ is) is_so) k (Some x) e x refl

  pub more_each : (xs : List (Option X)) → Each xs → Each (xs ++ None ∷ [])
  more_each xs each k x e =
      each_more At xs None (each_of xs each) (λ y is. absurd (none-some _ is)) k (Some x) e x
      refl

module _ {N : _} {own : _} {table : _} where
  abbrev Ready : ℕ → Option (Worker N own table) → Type 0
  Ready k o = (worker : Worker N own table) → o ≡ Some worker → IsNewOwn k worker

  pub more_ready : (xs : List (Option (Worker N own table))) (one : Worker N own table)
      → AreReady xs → IsNewOwn (length xs) one → AreReady (xs ++ Some one ∷ [])
  more_ready xs one ready new k worker e =
      each_more Ready xs (Some one) (λ j o at x is. ready j x (at ∙ ap Some is))
      (λ x is. subst (IsNewOwn (length xs)) (same_Some _ _ is) new) k (Some worker) e worker refl

  pub more_there : (xs : List (Option (Worker N own table))) (one : Worker N own table)
      → ((k : ℕ) → k < length xs → is_ready xs k ≡ true) → (k : ℕ)
      → k < length xs + 1 → is_ready (xs ++ Some one ∷ []) k ≡ true
  more_there [] one there zero lt = refl
  more_there [] one there (suc k) lt = absurd (omega (arith, lt))
  more_there (x ∷ xs) one there zero lt = there 0 (omega arith)
  more_there (x ∷ xs) one there (suc k) lt =
      more_there xs one (λ j low. there (suc j) (omega (arith, low))) k (omega (arith, lt))

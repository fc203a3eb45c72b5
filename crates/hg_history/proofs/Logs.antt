-- Histories and their logs, one after another.
use Rattle.std.proofs.Common.{◌≡◌, ◌≢◌, ℕ, List, [], ◌∷◌, ◌++◌, map, refl, ap, subst, eq-eqb}
use Rattle.std.proofs.Common.{ne_eqb}
use mathlib.Core.Logic.{dite}
use native.Mathlib.Decide.{ℕ_discrete}
use Rattle.hg_history.specs.History.{log_of, IsRun}

-- the log of two histories is that of the one and that of the other
pub log_append : {C : Type 0} (n : ℕ) (es ds : List (ℕ × C))
    → log_of n (es ++ ds) ≡ log_of n es ++ log_of n ds
log_append n [] ds = refl
log_append {C} n (e ∷ es) ds = dite (ℕ_discrete e.0 n)
    (λ is. rw (eq-eqb e.0 n is) (ap (λ (l : List C). e.1 ∷ l) (log_append n es ds)))
    (λ no_one. rw (ne_eqb e.0 n no_one) (log_append n es ds))

-- calls of one are its log, and nobody else's
pub log_own : {C : Type 0} (n : ℕ) (cs : List C) → log_of n (map (λ c. (n, c)) cs) ≡ cs
log_own n [] = refl
log_own {C} n (c ∷ cs) = rw (eq-eqb n n refl) (ap (λ (l : List C). c ∷ l) (log_own n cs))

pub log_else : {C : Type 0} (n m : ℕ) (cs : List C) → n ≢ m → log_of m (map (λ c. (n, c)) cs) ≡ []
log_else n m [] differ = refl
log_else n m (c ∷ cs) differ = rw (ne_eqb n m differ) (log_else n m cs differ)

pub run_append : {M C : Type 0} (Steps : M → ℕ → C → M → Type 0) (old mid new : M)
    (es ds : List (ℕ × C)) → IsRun Steps old es mid → IsRun Steps mid ds new
    → IsRun Steps old (es ++ ds) new
run_append Steps old mid new [] ds r s = subst (λ z. IsRun Steps z ds new) r s
run_append Steps old mid new (e ∷ es) ds r s = (r.0, r.1, run_append Steps r.0 mid new es ds r.2 s)

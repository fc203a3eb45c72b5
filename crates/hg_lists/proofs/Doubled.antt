-- Doubly linked lists on their own.
use Rattle.std.proofs.Common.{◌≡◌, ◌≢◌, ℕ, zero, suc, ◌<◌, ◌≤◌, List, [], ◌∷◌, length, slice_index, refl, sym, ap, ◌∙◌, arith, subst, ◌⊎◌, inl, inr, get_or-set_other, get_or-set_same}
use Rattle.std.specs.List.{AllByRecursion}
use Rattle.std.proofs.lemmas.List.{length-set}
use Rattle.hg_lists.specs.Chains.{chain, IsDouble}
use Rattle.hg_lists.specs.Links.{write_at}
use Rattle.hg_lists.specs.Repeats.{Lacks, HasNoRepeats}
use Rattle.hg_lists.proofs.RepeatsLemmas.{Each-both, Lacks-each}

pub chain-is : (n : ℕ) (next prev : ℕ → ℕ) (before link : ℕ) (xs : List ℕ) → IsDouble next prev before link xs → length xs ≤ n → chain n next link ≡ xs
unfolding chain
chain-is zero next prev before link [] h l = refl
chain-is zero next prev before link (x ∷ xs) h l = absurd (omega arith)
chain-is (suc n) next prev before link [] h l = rw h
chain-is (suc n) next prev before link (x ∷ xs) h l = rw h.0 (ap (λ r. x ∷ r) (chain-is n next prev (suc x) (next x) xs h.2 (omega arith)))

-- other links that are the same on the list
abbrev pub AreSame : (ℕ → ℕ) → (ℕ → ℕ) → (ℕ → ℕ) → (ℕ → ℕ) → ℕ → Type 0
AreSame next prev other back x = (other x ≡ next x) × (back x ≡ prev x)

pub double_kept : (next prev other back : ℕ → ℕ) (before link : ℕ) (xs : List ℕ) → AllByRecursion (AreSame next prev other back) xs → IsDouble next prev before link xs → IsDouble other back before link xs
double_kept next prev other back before link [] same h = h
double_kept next prev other back before link (x ∷ xs) same h = (h.0, same.0.1 ∙ h.1, rw same.0.0 (double_kept next prev other back (suc x) (next x) xs same.1 h.2))

-- a list whose first is told of what goes in front of it
pub double_fronted : (next prev other back : ℕ → ℕ) (head entry : ℕ) (xs : List ℕ) → Lacks entry xs → HasNoRepeats xs
    → ((x : ℕ) → x ≢ entry → other x ≡ next x) → ((x : ℕ) → head ≢ suc x → x ≢ entry → back x ≡ prev x) → ((x : ℕ) → head ≡ suc x → back x ≡ suc entry)
    → IsDouble next prev 0 head xs → IsDouble other back (suc entry) head xs
double_fronted next prev other back head entry [] lacks apart n p f h = h
double_fronted next prev other back head entry (x ∷ xs) lacks apart n p f h = (
  h.0,
  f x h.0,
  rw (n x (λ e. lacks.0 (sym e))) (double_kept next prev other back (suc x) (next x) xs
      (Each-both (λ y. entry ≢ y) (λ y. x ≢ y) (AreSame next prev other back) xs (λ y a b. (n y (λ e. a (sym e)), p y (λ e. b (omega (arith, e, h.0))) (λ e. a (sym e)))) (Lacks-each entry xs lacks.1) (Lacks-each x xs apart.0)) h.2),
)

-- what a link that begins a list leads to is on it
pub head_each : (P : ℕ → Type 0) (next prev : ℕ → ℕ) (before link x : ℕ) (xs : List ℕ) → IsDouble next prev before link xs → link ≡ suc x → AllByRecursion P xs → P x
head_each P next prev before link x [] h e p = absurd (omega (arith, h, e))
head_each P next prev before link x (y ∷ ys) h e p = let same : y ≡ x = omega (arith, h.0, e) in subst P same p.0

pub length-write_at : (xs : List ℕ) (link value : ℕ) → length (write_at xs link value) ≡ length xs
length-write_at xs zero value = refl
length-write_at xs (suc i) value = length-set xs i value

pub write_at-other : (xs : List ℕ) (link value x : ℕ) → link ≢ suc x → slice_index (write_at xs link value) x ≡ slice_index xs x
write_at-other xs zero value x ne = refl
write_at-other xs (suc i) value x ne = get_or-set_other xs i x value 0 (λ e. ne (ap suc (sym e)))

pub write_at-same : (xs : List ℕ) (link value x : ℕ) → x < length xs → link ≡ suc x → slice_index (write_at xs link value) x ≡ value
write_at-same xs zero value x l e = absurd (omega (arith, e))
write_at-same xs (suc i) value x l e = let same : i ≡ x = omega (arith, e) in rw same (get_or-set_same xs x value 0 l)

pub zero_or_suc : (n : ℕ) → (n ≡ 0) ⊎ ((j : ℕ) × (n ≡ suc j))
zero_or_suc zero = inl refl
zero_or_suc (suc j) = inr (j, refl)

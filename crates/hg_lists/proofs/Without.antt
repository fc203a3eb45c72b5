-- Lists without a entry.
use Rattle.std.proofs.Common.{◌≡◌, ◌≢◌, ℕ, suc, ◌+◌, List, [], ◌∷◌, length, refl, sym, ap, ◌∙◌, arith, subst, ◌⊎◌, inl, inr, ⊎_elim}
use Rattle.std.specs.List.{AllByRecursion}
use Rattle.std.proofs.lemmas.Bool.{cases_eq}
use Rattle.hg_lists.specs.Chains.{IsDouble}
use Rattle.hg_lists.specs.Repeats.{Lacks, IsIn, HasNoRepeats}
use Rattle.hg_lists.specs.Lists.{without}
use Rattle.hg_lists.proofs.RepeatsLemmas.{Each-both, each_in, Lacks-each, Lacks-not, nat_eq-same, nat_eq-other}
use Rattle.hg_lists.proofs.Doubled.{double_kept, AreSame}

pub without-same : (entry x : ℕ) (xs : List ℕ) → x ≡ entry → without entry (x ∷ xs) ≡ without entry xs
without-same entry x xs e = rw (e, nat_eq-same entry) refl

pub without-other : (entry x : ℕ) (xs : List ℕ) → x ≢ entry → without entry (x ∷ xs) ≡ x ∷ without entry xs
without-other entry x xs ne = rw (nat_eq-other x entry ne) refl

pub without-lacks : (entry : ℕ) (xs : List ℕ) → Lacks entry xs → without entry xs ≡ xs
without-lacks entry [] h = refl
without-lacks entry (x ∷ xs) h = without-other entry x xs (λ e. h.0 (sym e)) ∙ ap (λ r. x ∷ r) (without-lacks entry xs h.1)

pub Each-without : (P : ℕ → Type 0) (entry : ℕ) (xs : List ℕ) → AllByRecursion P xs → AllByRecursion (λ y. (y ≢ entry) × P y) (without entry xs)
Each-without P entry [] h = tt
Each-without P entry (x ∷ xs) h = elim (cases_eq x entry) [
  | inl e ↦ rw (without-same entry x xs e) (Each-without P entry xs h.1)
  | inr ne ↦ rw (without-other entry x xs ne) ((ne, h.0), Each-without P entry xs h.1)
]

pub Lacks-without : (x entry : ℕ) (xs : List ℕ) → Lacks x xs → Lacks x (without entry xs)
Lacks-without x entry [] h = tt
Lacks-without x entry (y ∷ ys) h = elim (cases_eq y entry) [
  | inl e ↦ rw (without-same entry y ys e) (Lacks-without x entry ys h.1)
  | inr ne ↦ rw (without-other entry y ys ne) (h.0, Lacks-without x entry ys h.1)
]

pub Apart-without : (entry : ℕ) (xs : List ℕ) → HasNoRepeats xs → HasNoRepeats (without entry xs)
Apart-without entry [] h = tt
Apart-without entry (x ∷ xs) h = elim (cases_eq x entry) [
  | inl e ↦ rw (without-same entry x xs e) (Apart-without entry xs h.1)
  | inr ne ↦ rw (without-other entry x xs ne) (Lacks-without x entry xs h.0, Apart-without entry xs h.1)
]

pub In-without : (x entry : ℕ) (xs : List ℕ) → x ≢ entry → IsIn x xs → IsIn x (without entry xs)
In-without x entry [] ne h = h
In-without x entry (y ∷ ys) ne h = elim (cases_eq y entry) [
  | inl e ↦ rw (without-same entry y ys e) (⊎_elim (λ s. absurd (ne (s ∙ e))) (λ r. In-without x entry ys ne r) h)
  | inr other ↦ rw (without-other entry y ys other) (⊎_elim (λ s. inl s) (λ r. inr (In-without x entry ys ne r)) h)
]

pub length-without : (entry : ℕ) (xs : List ℕ) → HasNoRepeats xs → IsIn entry xs → length (without entry xs) + 1 ≡ length xs
length-without entry [] a h = absurd h
length-without entry (x ∷ xs) a h = elim (cases_eq x entry) [
  | inl e ↦ rw (without-same entry x xs e, without-lacks entry xs (rw e at a.0)) (omega arith)
  | inr ne ↦ rw (without-other entry x xs ne) (let rest = length-without entry xs a.1 (⊎_elim (λ s. absurd (ne (sym s))) (λ r. r) h) in omega (arith, rest))
]

-- what a link that begins a list leads to is on it
pub first_in : (next prev : ℕ → ℕ) (before link z : ℕ) (xs : List ℕ) → IsDouble next prev before link xs → link ≡ suc z → IsIn z xs
first_in next prev before link z [] h e = absurd (omega (arith, h, e))
first_in next prev before link z (x ∷ xs) h e = inl (omega (arith, h.0, e))

-- the links of a entry on a list lead to the list, or back to what stands before it
pub next_in : (next prev : ℕ → ℕ) (before link entry z : ℕ) (xs : List ℕ) → IsDouble next prev before link xs → IsIn entry xs → next entry ≡ suc z → IsIn z xs
next_in next prev before link entry z [] h i e = i
next_in next prev before link entry z (x ∷ xs) h i e = ⊎_elim (λ s. inr (first_in next prev (suc x) (next x) z xs h.2 (ap next (sym s) ∙ e))) (λ r. inr (next_in next prev (suc x) (next x) entry z xs h.2 r e)) i

pub prev_in : (next prev : ℕ → ℕ) (before link entry : ℕ) (xs : List ℕ) → IsDouble next prev before link xs → IsIn entry xs → (prev entry ≡ before) ⊎ ((z : ℕ) × (prev entry ≡ suc z) × IsIn z xs)
prev_in next prev before link entry [] h i = absurd i
prev_in next prev before link entry (x ∷ xs) h i = ⊎_elim
    (λ s. inl (ap prev s ∙ h.1))
    (λ r. inr (⊎_elim (λ e. (x, e, inl refl)) (λ k. (k.0, k.1, inr k.2)) (prev_in next prev (suc x) (next x) entry xs h.2 r))) i

-- the list from a entry's next on goes on from what stood before the entry
at_page : (next prev other back : ℕ → ℕ) (before now entry : ℕ) (xs : List ℕ) → Lacks entry xs → HasNoRepeats xs → ((z : ℕ) → before ≡ suc z → Lacks z xs)
    → ((x : ℕ) → prev entry ≢ suc x → other x ≡ next x)
    → ((x : ℕ) → next entry ≢ suc x → back x ≡ prev x) → ((x : ℕ) → next entry ≡ suc x → back x ≡ prev entry)
    → prev entry ≡ before → now ≡ next entry → IsDouble next prev (suc entry) (next entry) xs → IsDouble other back before now xs
at_page next prev other back before now entry [] lacks apart b n p pf is e h = e ∙ h
at_page next prev other back before now entry (y ∷ ys) lacks apart b n p pf is e h =
    let N : (z : ℕ) → IsIn z (y ∷ ys) → other z ≡ next z = λ z there. n z (λ s. Lacks-not z (y ∷ ys) (b z (sym is ∙ s)) there) in (
      e ∙ h.0,
      pf y h.0 ∙ is,
      rw (N y (inl refl)) (double_kept next prev other back (suc y) (next y) ys (
          Each-both (λ z. y ≢ z) (λ z. IsIn z ys) (AreSame next prev other back) ys (λ z a there. (N z (inr there), p z (λ s. a (omega (arith, s, h.0))))) (Lacks-each y ys apart.0) (each_in ys)) h.2),
    )

-- the entry comes out
pub removed : (next prev other back : ℕ → ℕ) (before link now entry : ℕ) (xs : List ℕ) → HasNoRepeats xs → IsIn entry xs → ((z : ℕ) → before ≡ suc z → Lacks z xs)
    → ((x : ℕ) → prev entry ≢ suc x → other x ≡ next x) → ((x : ℕ) → prev entry ≡ suc x → other x ≡ next entry)
    → ((x : ℕ) → next entry ≢ suc x → back x ≡ prev x) → ((x : ℕ) → next entry ≡ suc x → back x ≡ prev entry)
    → (prev entry ≡ before → now ≡ next entry) → (prev entry ≢ before → now ≡ link)
    → IsDouble next prev before link xs → IsDouble other back before now (without entry xs)
removed next prev other back before link now entry [] apart i b n nf p pf f g h = absurd i
removed next prev other back before link now entry (x ∷ xs) apart i b n nf p pf f g h = elim (cases_eq x entry) [
  | inl e ↦ rw (without-same entry x xs e, without-lacks entry xs (rw e at apart.0)) (at_page next prev other back before now entry xs (rw e at apart.0) apart.1 (λ z s. (b z s).1) n p pf (rw e at h.1) (f (rw e at h.1)) (rw e at h.2))
  | inr ne ↦
      let rest : IsIn entry xs = ⊎_elim (λ s. absurd (ne (sym s))) (λ r. r) i in
      let far : prev entry ≢ before = λ s. (⊎_elim (λ t. (b x (sym s ∙ t)).0 refl) (λ k. Lacks-not k.0 xs (b k.0 (sym s ∙ k.1)).1 k.2) (prev_in next prev (suc x) (next x) entry xs h.2 rest)) in
      let later : next entry ≢ suc x = λ s. Lacks-not x xs apart.0 (next_in next prev (suc x) (next x) entry x xs h.2 rest s) in
      rw (without-other entry x xs ne) (
        g far ∙ h.0,
        p x later ∙ h.1,
        removed next prev other back (suc x) (next x) (other x) entry xs apart.1 rest (λ z s. subst (λ (y : ℕ). Lacks y xs) (let same : x ≡ z = omega (arith, s) in same) apart.0) n nf p pf (λ s. nf x s) (λ s. n x s) h.2,
      )
]

-- What is shown of things that stand by their number, each of which has a key.
use Rattle.std.proofs.Common.{◌≡◌, ◌≢◌, ℕ, ◌==◌, Bool, true, false, not, nat_eq, cond, List, [], ◌∷◌, ◌++◌, map, take, drop, filter, Option, Some, None, find, slice_set, refl, sym, ap, ◌∙◌, inl, inr, ⊎_elim, get_or-set_other}
use Rattle.std.specs.List.{AllByRecursion, cons_option, insert}
use Rattle.std.proofs.lemmas.Bool.{cases_eq}
use Rattle.std.proofs.lemmas.List.{take-append-drop}
use Rattle.std.proofs.lemmas.List.Elements.{filter_map-append}
use Rattle.hg_lists.specs.Repeats.{Lacks, IsIn}
use Rattle.hg_lists.specs.Lists.{without}
use Rattle.hg_lists.specs.Inserts.{Inserts}
use Rattle.hg_lists.proofs.RepeatsLemmas.{nat_eq-same, nat_eq-other}
use Rattle.hg_lists.proofs.Without.{without-same, without-other}
use Rattle.hg_pool.specs.Shown.{at_number, shown}

pub shown_some : {X : Type 0} (all : List (Option X)) (n : ℕ) (ns : List ℕ) (one : X) → at_number all n ≡ Some one → shown all (n ∷ ns) ≡ one ∷ shown all ns
shown_some all n ns one e = ap (λ o. cons_option o (shown all ns)) e

module _ {X : Type 0} (key : X → ℕ) where
  -- it stands where the number says, and the number is its key
  abbrev pub IsThere : List (Option X) → ℕ → Type 0
  IsThere all n = (one : X) × (at_number all n ≡ Some one) × (key one ≡ n)

  abbrev pub has_key : ℕ → X → Bool
  has_key n one = key one == n

  pub keys_shown : (all : List (Option X)) (ns : List ℕ) → AllByRecursion (IsThere all) ns → map key (shown all ns) ≡ ns
  keys_shown all [] h = refl
  keys_shown all (n ∷ ns) h =
      ap (map key) (shown_some all n ns h.0.0 h.0.1) ∙ ap (λ (k : ℕ). k ∷ map key (shown all ns)) h.0.2 ∙ ap (λ (ks : List ℕ). n ∷ ks) (keys_shown all ns h.1)

  key_same : (n : ℕ) (one : X) → key one ≡ n → has_key n one ≡ true
  key_same n one e = ap (λ (k : ℕ). nat_eq k n) e ∙ nat_eq-same n

  key_other : (n : ℕ) (one : X) → key one ≢ n → has_key n one ≡ false
  key_other n one ne = nat_eq-other (key one) n ne

  find_cons : (n : ℕ) (one : X) (rest : List X) (b : Bool) → has_key n one ≡ b → find (has_key n) (one ∷ rest) ≡ cond b (Some one) (find (has_key n) rest)
  find_cons n one rest b e = ap (λ (t : Bool). cond t (Some one) (find (has_key n) rest)) e

  pub find_shown-lacks : (all : List (Option X)) (ns : List ℕ) (n : ℕ) → AllByRecursion (IsThere all) ns → Lacks n ns → find (has_key n) (shown all ns) ≡ None
  find_shown-lacks all [] n h l = refl
  find_shown-lacks all (m ∷ ns) n h l =
      ap (find (has_key n)) (shown_some all m ns h.0.0 h.0.1) ∙ find_cons n h.0.0 (shown all ns) false (key_other n h.0.0 (λ e. l.0 (sym e ∙ h.0.2))) ∙ find_shown-lacks all ns n h.1 l.1

  pub find_shown-in : (all : List (Option X)) (ns : List ℕ) (n : ℕ) → AllByRecursion (IsThere all) ns → IsIn n ns → find (has_key n) (shown all ns) ≡ at_number all n
  find_shown-in all [] n h i = absurd i
  find_shown-in all (m ∷ ns) n h i = elim (cases_eq m n) [
    | inl e ↦ ap (find (has_key n)) (shown_some all m ns h.0.0 h.0.1) ∙ find_cons n h.0.0 (shown all ns) true (key_same n h.0.0 (h.0.2 ∙ e)) ∙ sym h.0.1 ∙ ap (at_number all) e
    | inr ne ↦ ap (find (has_key n)) (shown_some all m ns h.0.0 h.0.1) ∙ find_cons n h.0.0 (shown all ns) false (key_other n h.0.0 (λ e. ne (sym h.0.2 ∙ e))) ∙ find_shown-in all ns n h.1 (⊎_elim (λ s. absurd (ne (sym s))) (λ r. r) i)
  ]

  filter_cons : (n : ℕ) (one : X) (rest : List X) (b : Bool) → has_key n one ≡ b → filter (λ o. not (has_key n o)) (one ∷ rest) ≡ cond (not b) (one ∷ filter (λ o. not (has_key n o)) rest) (filter (λ o. not (has_key n o)) rest)
  filter_cons n one rest b e = ap (λ (t : Bool). cond (not t) (one ∷ filter (λ o. not (has_key n o)) rest) (filter (λ o. not (has_key n o)) rest)) e

  -- without that of a number
  pub shown_without : (all : List (Option X)) (ns : List ℕ) (n : ℕ) → AllByRecursion (IsThere all) ns → shown (slice_set all n None) (without n ns) ≡ filter (λ o. not (has_key n o)) (shown all ns)
  shown_without all [] n h = refl
  shown_without all (m ∷ ns) n h = elim (cases_eq m n) [
    | inl e ↦ ap (shown (slice_set all n None)) (without-same n m ns e) ∙ shown_without all ns n h.1 ∙ sym (ap (filter (λ o. not (has_key n o))) (shown_some all m ns h.0.0 h.0.1) ∙ filter_cons n h.0.0 (shown all ns) true (key_same n h.0.0 (h.0.2 ∙ e)))
    | inr ne ↦ ap (shown (slice_set all n None)) (without-other n m ns ne)
        ∙ shown_some (slice_set all n None) m (without n ns) h.0.0 (get_or-set_other all n m None None ne ∙ h.0.1)
        ∙ ap (λ (xs : List X). h.0.0 ∷ xs) (shown_without all ns n h.1)
        ∙ sym (ap (filter (λ o. not (has_key n o))) (shown_some all m ns h.0.0 h.0.1) ∙ filter_cons n h.0.0 (shown all ns) false (key_other n h.0.0 (λ e. ne (sym h.0.2 ∙ e))))
  ]

-- a change where no number of the list says
pub shown-set : {X : Type 0} (all : List (Option X)) (ns : List ℕ) (n : ℕ) (o : Option X) → Lacks n ns → shown (slice_set all n o) ns ≡ shown all ns
shown-set all [] n o l = refl
shown-set all (m ∷ ns) n o l =
    ap (λ p. cons_option p (shown (slice_set all n o) ns)) (get_or-set_other all n m o None (λ e. l.0 (sym e))) ∙ ap (cons_option (at_number all m)) (shown-set all ns n o l.1)

-- one more
pub shown_inserted : {X : Type 0} (all : List (Option X)) (ns : List ℕ) (at n : ℕ) (one : X) → at_number all n ≡ Some one → Inserts one (shown all ns) (shown all (insert ns at n))
shown_inserted all ns at n one e = (
  shown all (take at ns),
  shown all (drop at ns),
  ap (shown all) (sym (take-append-drop at ns)) ∙ filter_map-append (at_number all) (take at ns) (drop at ns),
  filter_map-append (at_number all) (take at ns) (n ∷ drop at ns) ∙ ap (λ xs. shown all (take at ns) ++ xs) (shown_some all n (drop at ns) one e),
)

pub shown_last : {X : Type 0} (all : List (Option X)) (ns : List ℕ) (n : ℕ) (one : X) → at_number all n ≡ Some one → shown all (ns ++ n ∷ []) ≡ shown all ns ++ one ∷ []
shown_last all ns n one e = filter_map-append (at_number all) ns (n ∷ []) ∙ ap (λ xs. shown all ns ++ xs) (shown_some all n [] one e)

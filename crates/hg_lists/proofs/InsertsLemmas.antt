-- Lists with one element more, and lists joined to one.
use Rattle.std.proofs.Common.{◌≡◌, ◌≢◌, ℕ, zero, suc, ◌+◌, ◌<◌, List, [], ◌∷◌, ◌++◌, length, map, slice_index_or, slice_set, refl, sym, ap, ◌∙◌, arith, subst, ◌⊎◌, inl, inr, ⊎_elim, get_or-set_other, get_or-set_same}
use Rattle.std.specs.Prelude.{Contains}
use Rattle.std.specs.List.{concat}
use Rattle.std.proofs.lemmas.Bool.{cases_eq}
use Rattle.std.proofs.lemmas.List.{append_assoc, ext_get_or, length-append, length-map, length-set}
use Rattle.std.proofs.lemmas.List.Elements.{Contains-append_left, Contains-append_right, Contains-append_cases}
use Rattle.hg_lists.specs.Repeats.{Lacks, HasNoRepeats}
use Rattle.hg_lists.specs.Inserts.{Inserts}
use Rattle.hg_lists.specs.Lists.{Lists, list_of, AreApart, without, without_entry}
use Rattle.hg_lists.proofs.RepeatsLemmas.{Contains-cons, Contains-cons_cases, HasNoRepeats-middle, lacks_contains}
use Rattle.hg_lists.proofs.Without.{without-lacks}
use Rattle.hg_lists.proofs.Listed.{list_of-without, without-first}

pub Inserts-front : {X : Type 0} (x : X) (xs : List X) → Inserts x xs (x ∷ xs)
Inserts-front x xs = ([], xs, refl, refl)

pub Inserts-behind : {X : Type 0} (x : X) (before old new : List X) → Inserts x old new → Inserts x (before ++ old) (before ++ new)
Inserts-behind x before old new h = (
  before ++ h.0,
  h.1,
  ap (λ r. before ++ r) h.2 ∙ sym (append_assoc before h.0 h.1),
  ap (λ r. before ++ r) h.3 ∙ sym (append_assoc before h.0 (x ∷ h.1)),
)

pub length-Inserts : {X : Type 0} (x : X) (old new : List X) → Inserts x old new → length new ≡ length old + 1
length-Inserts x old new h = omega (
  arith,
  ap length h.2,
  ap length h.3,
  length-append h.0 h.1,
  length-append h.0 (x ∷ h.1),
)

-- what the new list has
pub inserted_cases : (x y : ℕ) (old new : List ℕ) → Inserts x old new → Contains new y → (y ≡ x) ⊎ Contains old y
inserted_cases x y old new h c =
    let back : (xs : List ℕ) → xs ≡ old → Contains xs y → (y ≡ x) ⊎ Contains old y = λ xs e d. inr (subst (λ (zs : List ℕ). Contains zs y) e d) in
    ⊎_elim
    (λ front. back (h.0 ++ h.1) (sym h.2) (Contains-append_left h.0 h.1 y front))
    (λ rest. ⊎_elim (λ e. inl e) (λ d. back (h.0 ++ h.1) (sym h.2) (Contains-append_right h.0 h.1 y d)) (Contains-cons_cases x y h.1 rest))
    (Contains-append_cases h.0 (x ∷ h.1) y (subst (λ (zs : List ℕ). Contains zs y) h.3 c))

pub Contains-inserted : (x : ℕ) (old new : List ℕ) → Inserts x old new → Contains new x
Contains-inserted x old new h = subst (λ (zs : List ℕ). Contains zs x) (sym h.3) (Contains-append_right h.0 (x ∷ h.1) x (0, omega arith, refl))

pub Contains-Inserts : (x y : ℕ) (old new : List ℕ) → Inserts x old new → Contains old y → Contains new y
Contains-Inserts x y old new h c = subst (λ (zs : List ℕ). Contains zs y) (sym h.3) (⊎_elim
    (λ front. Contains-append_left h.0 (x ∷ h.1) y front)
    (λ rest. Contains-append_right h.0 (x ∷ h.1) y (Contains-cons x y h.1 rest))
    (Contains-append_cases h.0 h.1 y (subst (λ (zs : List ℕ). Contains zs y) h.2 c)))

pub HasNoRepeats-Inserts : (x : ℕ) (old new : List ℕ) → Inserts x old new → Lacks x old → HasNoRepeats old → HasNoRepeats new
HasNoRepeats-Inserts x old new h lacks once = subst HasNoRepeats (sym h.3) (HasNoRepeats-middle x h.0 h.1 (subst (λ (zs : List ℕ). Lacks x zs) h.2 lacks) (subst HasNoRepeats h.2 once))

-- a list without repeats, and what is left of it without one that stands in it
lacks_split : (x y : ℕ) (xs ys : List ℕ) → Lacks x (xs ++ y ∷ ys) → (x ≢ y) × Lacks x (xs ++ ys)
lacks_split x y [] ys l = l
lacks_split x y (z ∷ xs) ys l = let r = lacks_split x y xs ys l.1 in (r.0, (l.0, r.1))

no_repeats_split : (x : ℕ) (xs ys : List ℕ) → HasNoRepeats (xs ++ x ∷ ys) → HasNoRepeats (xs ++ ys) × Lacks x (xs ++ ys)
no_repeats_split x [] ys h = (h.1, h.0)
no_repeats_split x (z ∷ xs) ys h =
    let s = lacks_split z x xs ys h.0 in
    let r = no_repeats_split x xs ys h.1 in
    ((s.1, r.0), ((λ e. s.0 (sym e)), r.1))

pub no_repeats_inserted : (x : ℕ) (old new : List ℕ) → Inserts x old new → HasNoRepeats new → HasNoRepeats old × Lacks x old
no_repeats_inserted x old new h once =
    let r = no_repeats_split x h.0 h.1 (subst HasNoRepeats h.3 once) in
    (subst HasNoRepeats (sym h.2) r.0, subst (λ (zs : List ℕ). Lacks x zs) (sym h.2) r.1)

-- one list of several gets one more in front, so they have one more together
pub Inserts-concat : (lists : List (List ℕ)) (key x : ℕ) (rest : List ℕ) → key < length lists → Inserts x (concat (slice_set lists key rest)) (concat (slice_set lists key (x ∷ rest)))
Inserts-concat [] key x rest lt = absurd (omega arith)
Inserts-concat (xs ∷ lists) zero x rest lt = Inserts-front x (rest ++ concat lists)
Inserts-concat (xs ∷ lists) (suc key) x rest lt = Inserts-behind x xs _ _ (Inserts-concat lists key x rest (omega arith))

-- what stands on one of several lists stands on them together
pub Contains-concat : (lists : List (List ℕ)) (key x : ℕ) → Contains (slice_index_or lists key []) x → Contains (concat lists) x
Contains-concat [] key x c = c
Contains-concat (xs ∷ lists) zero x c = Contains-append_left xs (concat lists) x c
Contains-concat (xs ∷ lists) (suc key) x c = Contains-append_right xs (concat lists) x (Contains-concat lists key x c)

pub contained_concat : (lists : List (List ℕ)) (x : ℕ) → Contains (concat lists) x → (key : ℕ) × Contains (slice_index_or lists key []) x
contained_concat [] x c = (0, c)
contained_concat (xs ∷ lists) x c = ⊎_elim (λ d. (0, d)) (λ d. (let r = contained_concat lists x d in (suc r.0, r.1))) (Contains-append_cases xs (concat lists) x c)

-- a removal of what stands first on a list leaves the rest of that list, and the others as they are
pub without_entry-first : (m : Lists) (key entry : ℕ) (rest : List ℕ) → AreApart m → key < length m.by_key → list_of m key ≡ entry ∷ rest → (without_entry m entry).by_key ≡ slice_set m.by_key key rest
without_entry-first m key entry rest h lt e = ext_get_or [] (map (without entry) m.by_key) (slice_set m.by_key key rest) (length-map m.by_key (without entry) ∙ sym (length-set m.by_key key rest)) (λ at below. elim (cases_eq at key) [
  | inl s ↦ rw s (list_of-without m entry key ∙ ap (without entry) e ∙ without-first entry rest (subst HasNoRepeats e (h.once key)) ∙ sym (get_or-set_same m.by_key key rest [] lt))
  | inr ne ↦
      let there : Contains (list_of m key) entry = subst (λ (zs : List ℕ). Contains zs entry) (sym e) (0, omega arith, refl) in
      list_of-without m entry at ∙ without-lacks entry (list_of m at) (lacks_contains entry (list_of m at) (λ c. ne (h.alone entry at key c there))) ∙ sym (get_or-set_other m.by_key key at rest [] ne)
])

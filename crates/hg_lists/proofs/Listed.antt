-- What a push and a removal leave of the list of a key.
use Rattle.std.proofs.Common.{slice_index_or, ◌≡◌, ◌≢◌, ℕ, suc, ◌<◌, List, [], ◌∷◌, length, map, slice_get, Some, None, refl, sym, ap, ◌∙◌, arith, subst, ◌⊎◌, inl, inr, ⊎_elim, get_or-set_other, get_or-set_same}
use Rattle.std.specs.Prelude.{Contains}
use Rattle.std.proofs.lemmas.List.{length-map, get_or-map, get_or_past}
use Rattle.std.proofs.lemmas.Bool.{cases_eq, cases_lt}
use Rattle.hg_lists.specs.Repeats.{IsIn, HasNoRepeats}
use Rattle.hg_lists.specs.Lists.{Lists, list_of, IsNowhere, IsSomewhere, without, with_front, without_entry}
use Rattle.hg_lists.proofs.RepeatsLemmas.{in_contains, Contains-in, Contains-cons, Contains-cons_cases, lacks_contains}
use Rattle.hg_lists.proofs.Without.{without-same, without-other, without-lacks, In-without}

pub list_of-front_same : (m : Lists) (key entry : ℕ) → key < length m.by_key → list_of (with_front m key entry) key ≡ entry ∷ list_of m key
list_of-front_same m key entry lt = get_or-set_same m.by_key key (entry ∷ list_of m key) [] lt

pub list_of-front_other : (m : Lists) (key entry other : ℕ) → other ≢ key → list_of (with_front m key entry) other ≡ list_of m other
list_of-front_other m key entry other ne = get_or-set_other m.by_key key other (entry ∷ list_of m key) [] ne

pub list_of-without : (m : Lists) (entry key : ℕ) → list_of (without_entry m entry) key ≡ without entry (list_of m key)
list_of-without m entry key = elim (cases_lt key (length m.by_key)) [
  | inl lt ↦ get_or-map (without entry) m.by_key key [] [] lt
  | inr ge ↦ (let none : list_of m key ≡ [] = get_or_past m.by_key key [] ge in
      get_or_past (map (without entry) m.by_key) key [] (omega (arith, length-map m.by_key (without entry))) ∙ ap (without entry) (sym none))
]

in_without : (x entry : ℕ) (xs : List ℕ) → IsIn x (without entry xs) → (x ≢ entry) × IsIn x xs
in_without x entry [] i = absurd i
in_without x entry (y ∷ ys) i = elim (cases_eq y entry) [
  | inl e ↦ (let r = in_without x entry ys (rw (without-same entry y ys e) at i) in (r.0, inr r.1))
  | inr ne ↦ ⊎_elim (λ s. ((λ t. ne (sym s ∙ t)), inl s)) (λ k. (let r = in_without x entry ys k in (r.0, inr r.1))) (rw (without-other entry y ys ne) at i)
]

pub contained_without : (x entry : ℕ) (xs : List ℕ) → Contains (without entry xs) x → (x ≢ entry) × Contains xs x
contained_without x entry xs c = let r = in_without x entry xs (in_contains x (without entry xs) c) in (r.0, Contains-in x xs r.1)

pub Contains-without : (x entry : ℕ) (xs : List ℕ) → x ≢ entry → Contains xs x → Contains (without entry xs) x
Contains-without x entry xs ne c = Contains-in x (without entry xs) (In-without x entry xs ne (in_contains x xs c))

-- where the entries stand after a push
pub somewhere_front : (m : Lists) (key entry x : ℕ) → key < length m.by_key → IsSomewhere (with_front m key entry) x → (x ≡ entry) ⊎ IsSomewhere m x
somewhere_front m key entry x lt s = elim (cases_eq s.0 key) [
  | inl e ↦ ⊎_elim (λ same. inl same) (λ c. inr (key, c))
      (Contains-cons_cases entry x (list_of m key) (subst (λ (xs : List ℕ). Contains xs x) (ap (list_of (with_front m key entry)) e ∙ list_of-front_same m key entry lt) s.1))
  | inr ne ↦ inr (s.0, subst (λ (xs : List ℕ). Contains xs x) (list_of-front_other m key entry s.0 ne) s.1)
]

pub IsSomewhere-front_same : (m : Lists) (key entry : ℕ) → key < length m.by_key → IsSomewhere (with_front m key entry) entry
IsSomewhere-front_same m key entry lt = (key, subst (λ (xs : List ℕ). Contains xs entry) (sym (list_of-front_same m key entry lt)) (0, omega arith, refl))

pub IsSomewhere-front : (m : Lists) (key entry x : ℕ) → key < length m.by_key → IsSomewhere m x → IsSomewhere (with_front m key entry) x
IsSomewhere-front m key entry x lt s = elim (cases_eq s.0 key) [
  | inl e ↦ (key, subst (λ (xs : List ℕ). Contains xs x) (sym (list_of-front_same m key entry lt)) (Contains-cons entry x (list_of m key) (subst (λ (k : ℕ). Contains (list_of m k) x) e s.1)))
  | inr ne ↦ (s.0, subst (λ (xs : List ℕ). Contains xs x) (sym (list_of-front_other m key entry s.0 ne)) s.1)
]

-- and after a removal
pub IsNowhere-without : (m : Lists) (entry : ℕ) → IsNowhere (without_entry m entry) entry
IsNowhere-without m entry key c = (contained_without entry entry (list_of m key) (subst (λ (xs : List ℕ). Contains xs entry) (list_of-without m entry key) c)).0 refl

pub somewhere_without : (m : Lists) (entry x : ℕ) → IsSomewhere (without_entry m entry) x → (x ≢ entry) × IsSomewhere m x
somewhere_without m entry x s = let r = contained_without x entry (list_of m s.0) (subst (λ (xs : List ℕ). Contains xs x) (list_of-without m entry s.0) s.1) in (r.0, (s.0, r.1))

pub IsSomewhere-without : (m : Lists) (entry x : ℕ) → x ≢ entry → IsSomewhere m x → IsSomewhere (without_entry m entry) x
IsSomewhere-without m entry x ne s = (s.0, subst (λ (xs : List ℕ). Contains xs x) (sym (list_of-without m entry s.0)) (Contains-without x entry (list_of m s.0) ne s.1))

-- the first of a list is on it, and only a list of none has no first
pub Contains-first : (x : ℕ) (xs : List ℕ) → Some x ≡ slice_get xs 0 → Contains xs x
Contains-first x [] e = cc
Contains-first x (y ∷ ys) e = (0, omega arith, (let s : x ≡ y = cc in sym s))

pub no_first : (xs : List ℕ) → None ≡ slice_get xs 0 → xs ≡ []
no_first [] e = refl
no_first (x ∷ xs) e = cc

-- a removal of an entry that stands nowhere, and of the first of a list
map_without : (entry : ℕ) (lists : List (List ℕ)) → ((key : ℕ) → ¬ Contains (slice_index_or lists key []) entry) → map (without entry) lists ≡ lists
map_without entry [] f = refl
map_without entry (xs ∷ lists) f = ap (λ (ys : List ℕ). ys ∷ map (without entry) lists) (without-lacks entry xs (lacks_contains entry xs (f 0))) ∙ ap (λ (ls : List (List ℕ)). xs ∷ ls) (map_without entry lists (λ key. f (suc key)))

pub without_entry-nowhere : (m : Lists) (entry : ℕ) → IsNowhere m entry → without_entry m entry ≡ m
without_entry-nowhere m entry away = ap (λ (ls : List (List ℕ)). record m { by_key = ls }) (map_without entry m.by_key away)

pub without-first : (entry : ℕ) (entries : List ℕ) → HasNoRepeats (entry ∷ entries) → without entry (entry ∷ entries) ≡ entries
without-first entry entries once = without-same entry entry entries refl ∙ without-lacks entry entries once.0

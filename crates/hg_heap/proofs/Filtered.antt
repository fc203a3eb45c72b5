-- Lists that are filtered, one by one and all lists of a list.
use Rattle.std.proofs.Common.{◌≡◌, ⊎_elim, ℕ, suc, ◌&&◌, inl, inr, Bool, true}
use Rattle.std.proofs.Common.{cond, not, ◌∷◌, ◌++◌, [], List, map, length, filter, Contains}
use Rattle.std.proofs.Common.{slice_index_or}
use Rattle.std.proofs.Common.{refl, sym, ap, ◌∙◌, arith}
use Rattle.std.proofs.lemmas.Bool.{cases_Bool, cases_lt, true≢false}
use Rattle.std.proofs.lemmas.List.{length-map, get_or-map, get_or_past}
use Rattle.std.proofs.lemmas.List.Elements.{All-contains, All-contains_itself, All-filter}
use Rattle.std.proofs.lemmas.List.Elements.{filter_agree, filter_passes, Contains-append_cases}
use Rattle.std.proofs.lemmas.List.Sorted.{Contains-permutation, IsPermutation-filter_both}
use Rattle.hg_lists.proofs.RepeatsLemmas.{Contains-cons}
use Rattle.hg_queue.specs.Queues.{queue_of}

-- lists filtered twice
pub filter_twice : (p q r : ℕ → Bool) → ((x : ℕ) → r x ≡ (p x && q x)) → (xs : List ℕ)
    → filter q (filter p xs) ≡ filter r xs
filter_twice p q r h [] = refl
filter_twice p q r h (x ∷ xs) =
    elim (cases_Bool (p x)) as (λ _. filter q (filter p (x ∷ xs)) ≡ filter r (x ∷ xs)) [
      | inl t ↦
          ap (λ (b : Bool). filter q (cond b (x ∷ filter p xs) (filter p xs))) t
          ∙ ap (λ (ys : List ℕ). cond (q x) (x ∷ ys) ys) (filter_twice p q r h xs)
          ∙ ap (λ (b : Bool). cond b (x ∷ filter r xs) (filter r xs))
          (sym (h x ∙ ap (λ (b : Bool). b && q x) t))
      | inr f ↦
          ap (λ (b : Bool). filter q (cond b (x ∷ filter p xs) (filter p xs))) f
          ∙ filter_twice p q r h xs
          ∙ ap (λ (b : Bool). cond b (x ∷ filter r xs) (filter r xs))
          (sym (h x ∙ ap (λ (b : Bool). b && q x) f))
    ]

pub filters_twice : (p q r : ℕ → Bool) → ((x : ℕ) → r x ≡ (p x && q x)) → (xss : List (List ℕ))
    → map (filter q) (map (filter p) xss) ≡ map (filter r) xss
filters_twice p q r h [] = refl
filters_twice p q r h (xs ∷ xss) =
    ap (λ (ys : List ℕ). ys ∷ map (filter q) (map (filter p) xss)) (filter_twice p q r h xs)
    ∙ ap (λ (yss : List (List ℕ)). filter r xs ∷ yss) (filters_twice p q r h xss)

-- filtered by tests that agree
pub filters_same : (p q : ℕ → Bool) → ((x : ℕ) → p x ≡ q x) → (xss : List (List ℕ))
    → map (filter p) xss ≡ map (filter q) xss
filters_same p q h [] = refl
filters_same p q h (xs ∷ xss) =
    ap (λ (ys : List ℕ). ys ∷ map (filter p) xss) (filter_agree p q h xs)
    ∙ ap (λ (yss : List (List ℕ)). filter q xs ∷ yss) (filters_same p q h xss)

-- filtered by a test that all pass
pub filter_kept : (p : ℕ → Bool) (xs : List ℕ) → ((x : ℕ) → Contains xs x → p x ≡ true)
    → filter p xs ≡ xs
filter_kept p [] h = refl
filter_kept p (x ∷ xs) h =
    ap (λ (b : Bool). cond b (x ∷ filter p xs) (filter p xs)) (h x (0, omega arith, refl))
    ∙ ap (λ (ys : List ℕ). x ∷ ys)
    (filter_kept p xs (λ y c. h y (Contains-cons x y xs c)))

pub filters_kept : (p : ℕ → Bool) (xss : List (List ℕ))
    → ((key x : ℕ) → Contains (slice_index_or xss key []) x → p x ≡ true)
    → map (filter p) xss ≡ xss
filters_kept p [] h = refl
filters_kept p (xs ∷ xss) h =
    ap (λ (ys : List ℕ). ys ∷ map (filter p) xss) (filter_kept p xs (h 0))
    ∙ ap (λ (yss : List (List ℕ)). xs ∷ yss) (filters_kept p xss (λ key. h (suc key)))

pub filters_all : (p : ℕ → Bool) → ((x : ℕ) → p x ≡ true) → (xss : List (List ℕ))
    → map (filter p) xss ≡ xss
filters_all p h xss = filters_kept p xss (λ key x c. h x)

-- the list of a key
pub queue_of-filters : (p : ℕ → Bool) (xss : List (List ℕ)) (key : ℕ)
    → queue_of (map (filter p) xss) key ≡ filter p (queue_of xss key)
queue_of-filters p xss key = elim (cases_lt key (length xss)) [
  | inl lt ↦ get_or-map (filter p) xss key [] [] lt
  | inr ge ↦
      get_or_past (map (filter p) xss) key [] (omega (arith, ge, length-map xss (filter p)))
      ∙ ap (filter p) (sym (get_or_past xss key [] ge))
]

-- what a filtered list has
pub contained_filter : {X : Type 0} (p : X → Bool) (x : X) (xs : List X) → Contains (filter p xs) x
    → (p x ≡ true) × Contains xs x
contained_filter p x xs c = (
  All-contains (λ y. p y ≡ true) (filter p xs) x (filter_passes p xs) c,
  All-contains (Contains xs) (filter p xs) x
      (All-filter p (Contains xs) xs (All-contains_itself xs)) c,
)

pub Contains-filter : {X : Type 0} (p : X → Bool) (x : X) (xs : List X) → p x ≡ true
    → Contains xs x → Contains (filter p xs) x
Contains-filter {X} p x xs e c =
    let q : X → Bool = λ y. not (p y) in
    ⊎_elim (λ (l : Contains (filter p xs) x). l)
    (λ (r : Contains (filter q xs) x).
    absurd (true≢false (sym (contained_filter q x xs r).0 ∙ ap not e)))
    (Contains-append_cases (filter p xs) (filter q xs) x
    (Contains-permutation xs (filter p xs ++ filter q xs) x
    (IsPermutation-filter_both p q (λ y. refl) xs) c))

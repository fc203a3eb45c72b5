-- What is so of each of a list, what it lacks, and lists without repeats.
use Rattle.std.proofs.Common.{◌≡◌, ◌≢◌, ℕ, zero, suc, ◌+◌, ◌<◌, Bool, true, false, nat_eq, List, [], ◌∷◌, ◌++◌, length, count_by, refl, sym, ap, ◌∙◌, arith, subst, ◌⊎◌, inl, inr, ⊎_elim, cond}
use Rattle.std.specs.Prelude.{Contains, slice_index_or}
use Rattle.std.specs.List.{AllByRecursion}
use Rattle.std.proofs.lemmas.List.Sums.{sum_by-cons}
use Rattle.std.proofs.lemmas.Bool.{cases_eq}
use Rattle.hg_lists.specs.Repeats.{Lacks, IsIn, HasNoRepeats}

pub nat_eq-same : (n : ℕ) → nat_eq n n ≡ true
nat_eq-same n = grind arith

pub nat_eq-other : (n m : ℕ) → n ≢ m → nat_eq n m ≡ false
nat_eq-other n m ne = grind (arith, ne)

pub Each-weaker : {X : Type 0} (P Q : X → Type 0) (xs : List X) → ((x : X) → P x → Q x) → AllByRecursion P xs → AllByRecursion Q xs
Each-weaker P Q [] f p = tt
Each-weaker P Q (x ∷ xs) f p = (f x p.0, Each-weaker P Q xs f p.1)

pub Each-both : {X : Type 0} (P Q R : X → Type 0) (xs : List X) → ((x : X) → P x → Q x → R x) → AllByRecursion P xs → AllByRecursion Q xs → AllByRecursion R xs
Each-both P Q R [] f p q = tt
Each-both P Q R (x ∷ xs) f p q = (f x p.0 q.0, Each-both P Q R xs f p.1 q.1)

pub Each-left : {X : Type 0} (P : X → Type 0) (xs ys : List X) → AllByRecursion P (xs ++ ys) → AllByRecursion P xs
Each-left P [] ys p = tt
Each-left P (x ∷ xs) ys p = (p.0, Each-left P xs ys p.1)

pub Each-right : {X : Type 0} (P : X → Type 0) (xs ys : List X) → AllByRecursion P (xs ++ ys) → AllByRecursion P ys
Each-right P [] ys p = p
Each-right P (x ∷ xs) ys p = Each-right P xs ys p.1

-- one more in the middle
pub Each-middle : {X : Type 0} (P : X → Type 0) (xs ys : List X) (x : X) → P x → AllByRecursion P (xs ++ ys) → AllByRecursion P (xs ++ x ∷ ys)
Each-middle P [] ys y h p = (h, p)
Each-middle P (x ∷ xs) ys y h p = (p.0, Each-middle P xs ys y h p.1)

-- what is so of each is so of one that is on the list
pub Each-in : (P : ℕ → Type 0) (x : ℕ) (xs : List ℕ) → AllByRecursion P xs → IsIn x xs → P x
Each-in P x [] h i = absurd i
Each-in P x (y ∷ ys) h i = ⊎_elim (λ s. subst P (sym s) h.0) (λ r. Each-in P x ys h.1 r) i

pub each_in : (xs : List ℕ) → AllByRecursion (λ z. IsIn z xs) xs
each_in [] = tt
each_in (x ∷ xs) = (inl refl, Each-weaker (λ z. IsIn z xs) (λ z. IsIn z (x ∷ xs)) xs (λ z i. inr i) (each_in xs))

-- a list lacks what is apart from each of it
pub Lacks-each : (x : ℕ) (xs : List ℕ) → Lacks x xs → AllByRecursion (λ y. x ≢ y) xs
Lacks-each x [] h = tt
Lacks-each x (y ∷ ys) h = (h.0, Lacks-each x ys h.1)

pub Each-lacks : (x : ℕ) (xs : List ℕ) → AllByRecursion (λ y. x ≢ y) xs → Lacks x xs
Each-lacks x [] h = tt
Each-lacks x (y ∷ ys) h = (h.0, Each-lacks x ys h.1)

pub Lacks-not : (x : ℕ) (xs : List ℕ) → Lacks x xs → IsIn x xs → ⊥
Lacks-not x [] l i = i
Lacks-not x (y ∷ ys) l i = ⊎_elim (λ e. l.0 e) (λ r. Lacks-not x ys l.1 r) i

pub in_or_lacks : (x : ℕ) (xs : List ℕ) → ((y : ℕ) → IsIn y xs → x ≢ y) → Lacks x xs
in_or_lacks x [] f = tt
in_or_lacks x (y ∷ ys) f = (f y (inl refl), in_or_lacks x ys (λ z i. f z (inr i)))

pub Lacks-middle : (x y : ℕ) (xs ys : List ℕ) → x ≢ y → Lacks x (xs ++ ys) → Lacks x (xs ++ y ∷ ys)
Lacks-middle x y [] ys ne h = (ne, h)
Lacks-middle x y (z ∷ xs) ys ne h = (h.0, Lacks-middle x y xs ys ne h.1)

pub HasNoRepeats-middle : (x : ℕ) (xs ys : List ℕ) → Lacks x (xs ++ ys) → HasNoRepeats (xs ++ ys) → HasNoRepeats (xs ++ x ∷ ys)
HasNoRepeats-middle x [] ys l h = (l, h)
HasNoRepeats-middle x (y ∷ xs) ys l h = (Lacks-middle y x xs ys (λ e. l.0 (sym e)) h.0, HasNoRepeats-middle x xs ys l.1 h.1)

pub HasNoRepeats-left : (xs ys : List ℕ) → HasNoRepeats (xs ++ ys) → HasNoRepeats xs
HasNoRepeats-left [] ys h = tt
HasNoRepeats-left (x ∷ xs) ys h = (Each-lacks x xs (Each-left (λ y. x ≢ y) xs ys (Lacks-each x (xs ++ ys) h.0)), HasNoRepeats-left xs ys h.1)

-- one that is on the list stands at some index of it
pub Contains-cons : (x y : ℕ) (xs : List ℕ) → Contains xs y → Contains (x ∷ xs) y
Contains-cons x y xs c = (suc c.0, omega (arith, c.1), c.2)

pub Contains-in : (x : ℕ) (xs : List ℕ) → IsIn x xs → Contains xs x
Contains-in x [] i = absurd i
Contains-in x (y ∷ ys) i = ⊎_elim (λ s. (0, omega arith, sym s)) (λ r. Contains-cons y x ys (Contains-in x ys r)) i

at_in : (x : ℕ) (xs : List ℕ) (k : ℕ) → k < length xs → slice_index_or xs k x ≡ x → IsIn x xs
at_in x [] k lt e = absurd (omega arith)
at_in x (y ∷ ys) zero lt e = inl (sym e)
at_in x (y ∷ ys) (suc k) lt e = inr (at_in x ys k (omega arith) e)

pub in_contains : (x : ℕ) (xs : List ℕ) → Contains xs x → IsIn x xs
in_contains x xs c = at_in x xs c.0 c.1 c.2

pub Contains-cons_cases : (x y : ℕ) (xs : List ℕ) → Contains (x ∷ xs) y → (y ≡ x) ⊎ Contains xs y
Contains-cons_cases x y xs c = ⊎_elim (λ e. inl e) (λ r. inr (Contains-in y xs r)) (in_contains y (x ∷ xs) c)

pub Contains-lacks : (x : ℕ) (xs : List ℕ) → Lacks x xs → Contains xs x → ⊥
Contains-lacks x xs l c = Lacks-not x xs l (in_contains x xs c)

pub lacks_contains : (x : ℕ) (xs : List ℕ) → (Contains xs x → ⊥) → Lacks x xs
lacks_contains x xs f = in_or_lacks x xs (λ y i e. f (Contains-in x xs (subst (λ (z : ℕ). IsIn z xs) (sym e) i)))

pub Each-contains : (P : ℕ → Type 0) (x : ℕ) (xs : List ℕ) → AllByRecursion P xs → Contains xs x → P x
Each-contains P x xs h c = Each-in P x xs h (in_contains x xs c)

-- it is on the list or lacks there
pub in_cases : (x : ℕ) (xs : List ℕ) → IsIn x xs ⊎ Lacks x xs
in_cases x [] = inr tt
in_cases x (y ∷ ys) = elim (cases_eq x y) [
  | inl e ↦ inl (inl e)
  | inr ne ↦ ⊎_elim (λ i. inl (inr i)) (λ l. inr (ne, l)) (in_cases x ys)
]

-- how often it stands on a list without repeats
count_step : (x y : ℕ) (ys : List ℕ) (b : Bool) → nat_eq y x ≡ b → count_by (λ z. nat_eq z x) (y ∷ ys) ≡ cond {A = ℕ} b 1 0 + count_by (λ z. nat_eq z x) ys
count_step x y ys b e =
    let step : count_by (λ z. nat_eq z x) (y ∷ ys) ≡ cond {A = ℕ} (nat_eq y x) 1 0 + count_by (λ z. nat_eq z x) ys = sum_by-cons (λ z. cond {A = ℕ} (nat_eq z x) 1 0) y ys in
    step ∙ ap (λ (v : Bool). cond {A = ℕ} v 1 0 + count_by (λ z. nat_eq z x) ys) e

pub count_by-lacks : (x : ℕ) (xs : List ℕ) → Lacks x xs → count_by (λ y. nat_eq y x) xs ≡ 0
count_by-lacks x [] l = refl
count_by-lacks x (y ∷ ys) l =
    omega (arith, count_step x y ys false (nat_eq-other y x (λ e. l.0 (sym e))), count_by-lacks x ys l.1)

pub count_by-in : (x : ℕ) (xs : List ℕ) → HasNoRepeats xs → IsIn x xs → count_by (λ y. nat_eq y x) xs ≡ 1
count_by-in x [] h i = absurd i
count_by-in x (y ∷ ys) h i = elim (cases_eq y x) [
  | inl e ↦ (let no = count_by-lacks x ys (subst (λ (z : ℕ). Lacks z ys) e h.0) in
      let yes : nat_eq y x ≡ true = rw e (nat_eq-same x) in
      omega (arith, count_step x y ys true yes, no))
  | inr ne ↦ (let rest = count_by-in x ys h.1 (⊎_elim (λ s. absurd (ne (sym s))) (λ r. r) i) in
      omega (arith, count_step x y ys false (nat_eq-other y x ne), rest))
]

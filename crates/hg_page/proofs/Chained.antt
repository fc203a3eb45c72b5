-- Chains, and lists whose indexes are apart.
use Rattle.std.proofs.Common.{◌≡◌, ◌≢◌, ℕ, zero, suc, ◌-◌, ◌≤◌, List, [], ◌∷◌, ◌++◌, length, refl, ap, arith, cond, nat_eq, false}
use Rattle.std.specs.List.{AllByRecursion}
use Rattle.hg_lists.proofs.RepeatsLemmas.{Lacks-each}
use Rattle.hg_lists.specs.Chains.{chain, IsChain}
use Rattle.hg_lists.specs.Repeats.{Lacks, HasNoRepeats}
use Rattle.hg_page.specs.Links.{last_of}

-- the function finds the list
pub chain-is : (n : ℕ) (next : ℕ → ℕ) (link : ℕ) (xs : List ℕ) → IsChain next link xs → length xs ≤ n → chain n next link ≡ xs
unfolding chain
chain-is zero next link [] h l = refl
chain-is zero next link (x ∷ xs) h l = absurd (omega arith)
chain-is (suc n) next link [] h l = rw h
chain-is (suc n) next link (x ∷ xs) h l = rw h.0 (ap (λ r. x ∷ r) (chain-is n next (next x) xs h.1 (omega arith)))

-- other links, equal on the list
pub chain_kept : (next other : ℕ → ℕ) (link : ℕ) (xs : List ℕ) → AllByRecursion (λ i. other i ≡ next i) xs → IsChain next link xs → IsChain other link xs
chain_kept next other link [] same h = h
chain_kept next other link (x ∷ xs) same h = (h.0, rw same.0 (chain_kept next other (next x) xs same.1 h.1))

-- the last of a list that lacks it is another
lacks_last : (x y : ℕ) (xs : List ℕ) → Lacks x (y ∷ xs) → x ≢ last_of y xs
lacks_last x y [] h = h.0
lacks_last x y (z ∷ xs) h = lacks_last x z xs h.1

-- all but the last keep their links, and the last goes on to another list
pub chain_joined : (next other : ℕ → ℕ) (link more x : ℕ) (xs ys : List ℕ) → HasNoRepeats (x ∷ xs) → ((i : ℕ) → i ≢ last_of x xs → other i ≡ next i) → other (last_of x xs) ≡ more → IsChain next link (x ∷ xs) → IsChain other more ys → IsChain other link ((x ∷ xs) ++ ys)
chain_joined next other link more x [] ys apart same joins h t = (h.0, rw joins t)
chain_joined next other link more x (y ∷ xs) ys apart same joins h t =
    let ne : x ≢ last_of y xs = lacks_last x y xs apart.0 in
    (h.0, rw (same x ne) (chain_joined next other (next x) more y xs ys apart.1 same joins h.1 t))

pub last_of-append : (before x : ℕ) (xs ys : List ℕ) → last_of before (xs ++ x ∷ ys) ≡ last_of x ys
last_of-append before x [] ys = refl
last_of-append before x (y ∷ xs) ys = last_of-append y x xs ys

-- what follows a list is apart from its last
pub Apart-last : (x : ℕ) (xs ys : List ℕ) → HasNoRepeats ((x ∷ xs) ++ ys) → AllByRecursion (λ y. last_of x xs ≢ y) ys
Apart-last x [] ys h = Lacks-each x ys h.0
Apart-last x (z ∷ xs) ys h = Apart-last z xs ys h.1

pub last_of-tail : (before index : ℕ) (xs : List ℕ) → last_of index xs ≡ before → last_of before xs ≡ before
last_of-tail before index [] h = refl
last_of-tail before index (x ∷ xs) h = h

pub chain-cons : (n : ℕ) (next : ℕ → ℕ) (link : ℕ) → link ≢ 0 → chain (suc n) next link ≡ (link - 1) ∷ chain n next (next (link - 1))
unfolding chain
chain-cons n next zero ne = absurd (ne refl)
chain-cons n next (suc i) ne = let e : suc i - 1 ≡ i = omega arith in rw e

pub chain-nil : (n : ℕ) (next : ℕ → ℕ) (link : ℕ) → link ≡ 0 → chain (suc n) next link ≡ []
unfolding chain
chain-nil n next link e = rw e

-- the last, where one goes in front
pub last_of-front : (n : ℕ) (next : ℕ → ℕ) (link end index : ℕ) → last_of end (chain (suc n) next link) ≡ end → last_of index (chain (suc n) next link) ≡ cond (nat_eq link 0) index end
unfolding chain
last_of-front n next zero end index h = refl
last_of-front n next (suc i) end index h = let e : nat_eq (suc i) 0 ≡ false = grind arith in rw e h

-- the last of a list is one of it
pub last_each : (P : ℕ → Type 0) (x : ℕ) (xs : List ℕ) → AllByRecursion P (x ∷ xs) → P (last_of x xs)
last_each P x [] h = h.0
last_each P x (y ∷ xs) h = last_each P y xs h.1

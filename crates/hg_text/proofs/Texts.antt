-- Texts of items and of numbers, one after another.
use Rattle.std.proofs.Common.{◌≡◌, ℕ, ◌+◌, ◌<◌, List, [], ◌∷◌, ◌++◌, length, map, take, get_or, refl, sym, ap, subst, ◌∙◌, append_assoc, arith}
use Rattle.std.specs.List.{flat_map, range_with_len}
use Rattle.std.proofs.lemmas.Grind.{flat_map-append}
use Rattle.std.proofs.lemmas.List.{take_more, append-nil}
use Rattle.std.proofs.lemmas.List.FromFn.{map-range_with_len_more}

-- one piece more
pub joined : {A : Type 0} (old front more now next : List A) → now ≡ old ++ front → next ≡ now ++ more → next ≡ old ++ (front ++ more)
joined old front more now next is more_is = more_is ∙ ap (λ t. t ++ more) is ∙ append_assoc old front more

map_same : (ns : List ℕ) → map (λ n. n) ns ≡ ns
map_same [] = refl
map_same (n ∷ ns) = ap (λ m. n ∷ m) (map_same ns)

-- one number more
pub one_more : (i : ℕ) → range_with_len 0 (i + 1) ≡ range_with_len 0 i ++ i ∷ []
one_more i =
    sym (map_same (range_with_len 0 (i + 1)))
    ∙ map-range_with_len_more (λ n. n) 0 i i (omega arith)
    ∙ ap (λ ns. ns ++ i ∷ []) (map_same (range_with_len 0 i))

pub flat_one : {X A : Type 0} (f : X → List A) (xs : List X) (x : X) → flat_map f (xs ++ x ∷ []) ≡ flat_map f xs ++ f x
flat_one f xs x = flat_map-append f xs (x ∷ []) ∙ ap (λ t. flat_map f xs ++ t) (append-nil (f x))

-- the text of the next number, and of all
pub numbers_more : {A : Type 0} (f : ℕ → List A) (i : ℕ) (old now next : List A) → now ≡ old ++ flat_map f (range_with_len 0 i) → next ≡ now ++ f i → next ≡ old ++ flat_map f (range_with_len 0 (i + 1))
numbers_more f i old now next so_far more =
    joined old (flat_map f (range_with_len 0 i)) (f i) now next so_far more
    ∙ ap (λ t. old ++ t) (sym (ap (flat_map f) (one_more i) ∙ flat_one f (range_with_len 0 i) i))

pub numbers_all : {A : Type 0} (f : ℕ → List A) (i n : ℕ) (old now : List A) → i ≡ n → now ≡ old ++ flat_map f (range_with_len 0 i) → now ≡ old ++ flat_map f (range_with_len 0 n)
numbers_all f i n old now e so_far = subst (λ m. now ≡ old ++ flat_map f (range_with_len 0 m)) e so_far

-- the text of the next item
pub items_more : {X A : Type 0} (f : X → List A) (xs : List X) (i : ℕ) (d : X) (old now next : List A) → i < length xs
    → now ≡ old ++ flat_map f (take i xs) → next ≡ now ++ f (get_or xs i d) → next ≡ old ++ flat_map f (take (i + 1) xs)
items_more f xs i d old now next within so_far more =
    joined old (flat_map f (take i xs)) (f (get_or xs i d)) now next so_far more
    ∙ ap (λ t. old ++ t) (sym (ap (flat_map f) (take_more xs i d within) ∙ flat_one f (take i xs) (get_or xs i d)))

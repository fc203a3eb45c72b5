-- Texts one after another, over numbers, over rows and over other lists.
use Rattle.std.proofs.Common.{◌≡◌, ℕ, ◌+◌, ◌<◌, List, [], ◌∷◌, ◌++◌, length, map, take, get_or, refl, sym, ap, subst, ◌∙◌, append_assoc, codes, arith}
use Rattle.std.specs.List.{flat_map, range_with_len}
use Rattle.std.proofs.lemmas.Grind.{flat_map-append}
use Rattle.std.proofs.lemmas.List.{take_more, map_push, append-nil}
use Rattle.std.proofs.lemmas.List.FromFn.{map-range_with_len_more}
use Rattle.toml.specs.View.{view}
use Rattle.toml.specs.declared.value.Value.{Value}
use Rattle.hg_show.specs.Rows.{names_in, text_at}

-- one piece more
pub joined : {A : Type 0} (old front more now next : List A) → now ≡ old ++ front → next ≡ now ++ more → next ≡ old ++ (front ++ more)
joined old front more now next is more_is = more_is ∙ ap (λ t. t ++ more) is ∙ append_assoc old front more

map_same : (ns : List ℕ) → map (λ n. n) ns ≡ ns
map_same [] = refl
map_same (n ∷ ns) = ap (λ m. n ∷ m) (map_same ns)

one_more : (i : ℕ) → range_with_len 0 (i + 1) ≡ range_with_len 0 i ++ i ∷ []
one_more i =
    sym (map_same (range_with_len 0 (i + 1)))
    ∙ map-range_with_len_more (λ n. n) 0 i i (omega arith)
    ∙ ap (λ ns. ns ++ i ∷ []) (map_same (range_with_len 0 i))

pub flat_one : {X A : Type 0} (f : X → List A) (xs : List X) (x : X) → flat_map f (xs ++ x ∷ []) ≡ flat_map f xs ++ f x
flat_one f xs x = flat_map-append f xs (x ∷ []) ∙ ap (λ t. flat_map f xs ++ t) (append-nil (f x))

-- the text of the next number
pub numbers_more : {A : Type 0} (f : ℕ → List A) (i : ℕ) (old now next : List A) → now ≡ old ++ flat_map f (range_with_len 0 i) → next ≡ now ++ f i → next ≡ old ++ flat_map f (range_with_len 0 (i + 1))
numbers_more f i old now next so_far more =
    joined old (flat_map f (range_with_len 0 i)) (f i) now next so_far more
    ∙ ap (λ t. old ++ t) (sym (ap (flat_map f) (one_more i) ∙ flat_one f (range_with_len 0 i) i))

-- all numbers
pub numbers_all : {A : Type 0} (f : ℕ → List A) (i n : ℕ) (old now : List A) → i ≡ n → now ≡ old ++ flat_map f (range_with_len 0 i) → now ≡ old ++ flat_map f (range_with_len 0 n)
numbers_all f i n old now e so_far = subst (λ m. now ≡ old ++ flat_map f (range_with_len 0 m)) e so_far

-- and the same where each number has one text
pub number_each_more : {A : Type 0} (f : ℕ → A) (i : ℕ) (old now next : List A) → now ≡ old ++ map f (range_with_len 0 i) → next ≡ now ++ f i ∷ [] → next ≡ old ++ map f (range_with_len 0 (i + 1))
number_each_more f i old now next so_far more =
    joined old (map f (range_with_len 0 i)) (f i ∷ []) now next so_far more
    ∙ ap (λ t. old ++ t) (sym (map-range_with_len_more f 0 i i (omega arith)))

pub number_each_all : {A : Type 0} (f : ℕ → A) (i n : ℕ) (old now : List A) → i ≡ n → now ≡ old ++ map f (range_with_len 0 i) → now ≡ old ++ map f (range_with_len 0 n)
number_each_all f i n old now e so_far = subst (λ m. now ≡ old ++ map f (range_with_len 0 m)) e so_far

-- a list up to its next item
take_next : {X : Type 0} (xs : List X) (i : ℕ) (x : X) → i < length xs → x ≡ get_or xs i x → take (i + 1) xs ≡ take i xs ++ x ∷ []
take_next xs i x within is = take_more xs i x within ∙ ap (λ r. take i xs ++ r ∷ []) (sym is)

pub viewed_next : {X Y : Type 0} (v : X → Y) (xs : List X) (i : ℕ) (x : X) → i < length xs → x ≡ get_or xs i x → map v (take (i + 1) xs) ≡ map v (take i xs) ++ v x ∷ []
viewed_next v xs i x within is = ap (map v) (take_next xs i x within is) ∙ map_push v (take i xs) x

-- the text of the next item
pub items_more : {X A : Type 0} (f : X → List A) (xs : List X) (i : ℕ) (x : X) (old now next : List A) → i < length xs → x ≡ get_or xs i x
    → now ≡ old ++ flat_map f (take i xs) → next ≡ now ++ f x → next ≡ old ++ flat_map f (take (i + 1) xs)
items_more f xs i x old now next within is so_far more =
    joined old (flat_map f (take i xs)) (f x) now next so_far more
    ∙ ap (λ t. old ++ t) (sym (ap (flat_map f) (take_next xs i x within is) ∙ flat_one f (take i xs) x))

-- of the next item by what is seen of it
pub viewed_more : {X Y A : Type 0} (v : X → Y) (f : Y → List A) (xs : List X) (i : ℕ) (x : X) (old now next : List A) → i < length xs → x ≡ get_or xs i x
    → now ≡ old ++ flat_map f (map v (take i xs)) → next ≡ now ++ f (v x) → next ≡ old ++ flat_map f (map v (take (i + 1) xs))
viewed_more v f xs i x old now next within is so_far more =
    joined old (flat_map f (map v (take i xs))) (f (v x)) now next so_far more
    ∙ ap (λ t. old ++ t) (sym (ap (flat_map f) (viewed_next v xs i x within is) ∙ flat_one f (map v (take i xs)) (v x)))

pub viewed_each_more : {X Y A : Type 0} (v : X → Y) (f : Y → A) (xs : List X) (i : ℕ) (x : X) (old now next : List A) → i < length xs → x ≡ get_or xs i x
    → now ≡ old ++ map f (map v (take i xs)) → next ≡ now ++ f (v x) ∷ [] → next ≡ old ++ map f (map v (take (i + 1) xs))
viewed_each_more v f xs i x old now next within is so_far more =
    joined old (map f (map v (take i xs))) (f (v x) ∷ []) now next so_far more
    ∙ ap (λ t. old ++ t) (sym (ap (map f) (viewed_next v xs i x within is) ∙ map_push f (map v (take i xs)) (v x)))

names_next : (rows : List Value) (i : ℕ) (row : Value) (name : List ℕ) → i < length rows → row ≡ get_or rows i row
    → name ≡ text_at (codes "name") (view row) → names_in (map view (take (i + 1) rows)) ≡ names_in (map view (take i rows)) ++ name ∷ []
names_next rows i row name within is named =
    ap names_in (viewed_next view rows i row within is) ∙ map_push (text_at (codes "name")) (map view (take i rows)) (view row)
    ∙ ap (λ n. names_in (map view (take i rows)) ++ n ∷ []) (sym named)

-- the text of the next row, by its name
pub rows_more : {A : Type 0} (f : List ℕ → List A) (rows : List Value) (i : ℕ) (row : Value) (name : List ℕ) (old now next : List A) → i < length rows → row ≡ get_or rows i row
    → name ≡ text_at (codes "name") (view row) → now ≡ old ++ flat_map f (names_in (map view (take i rows))) → next ≡ now ++ f name
    → next ≡ old ++ flat_map f (names_in (map view (take (i + 1) rows)))
rows_more f rows i row name old now next within is named so_far more =
    joined old (flat_map f (names_in (map view (take i rows)))) (f name) now next so_far more
    ∙ ap (λ t. old ++ t) (sym (ap (flat_map f) (names_next rows i row name within is named) ∙ flat_one f (names_in (map view (take i rows))) name))

pub row_each_more : {A : Type 0} (f : List ℕ → A) (rows : List Value) (i : ℕ) (row : Value) (name : List ℕ) (old now next : List A) → i < length rows → row ≡ get_or rows i row
    → name ≡ text_at (codes "name") (view row) → now ≡ old ++ map f (names_in (map view (take i rows))) → next ≡ now ++ f name ∷ []
    → next ≡ old ++ map f (names_in (map view (take (i + 1) rows)))
row_each_more f rows i row name old now next within is named so_far more =
    joined old (map f (names_in (map view (take i rows)))) (f name ∷ []) now next so_far more
    ∙ ap (λ t. old ++ t) (sym (ap (map f) (names_next rows i row name within is named) ∙ map_push f (names_in (map view (take i rows))) name))

-- two words, each with a number behind it
pub counted_twice : (old a b c d now next : List ℕ) → now ≡ old ++ a ++ b → next ≡ now ++ c ++ d → next ≡ old ++ (a ++ b ++ c ++ d)
counted_twice old a b c d now next first second = second ∙ ap (λ t. t ++ c ++ d) first ∙ simp append_assoc

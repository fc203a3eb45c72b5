-- Lists that grow by one, and what is seen of their items.
use Rattle.std.proofs.Common.{◌≡◌, ℕ, ◌+◌, ◌<◌, Bool, ◌||◌, List, [], ◌∷◌, ◌++◌, length, map, take, get_or, refl, sym, ap, ◌∙◌, append_assoc}
use Rattle.std.specs.Prelude.{fold}
use Rattle.std.specs.List.{flat_map, list_any}
use Rattle.std.proofs.lemmas.Grind.{flat_map-append}
use Rattle.std.proofs.lemmas.List.{take_more, map_push, append-nil}

-- whether some item passes a test of what is seen of it
pub list_any-map : {X Y : Type 0} (p : Y → Bool) (h : X → Y) (xs : List X) → list_any p (map h xs) ≡ list_any (λ x. p (h x)) xs
list_any-map p h [] = refl
list_any-map p h (x ∷ xs) = ap (λ b. p (h x) || b) (list_any-map p h xs)

-- a list up to its next item, and what is folded over it
take_next : {X : Type 0} (xs : List X) (i : ℕ) (x : X) → i < length xs → x ≡ get_or xs i x → take (i + 1) xs ≡ take i xs ++ x ∷ []
take_next xs i x within is = take_more xs i x within ∙ ap (λ r. take i xs ++ r ∷ []) (sym is)

fold_one : {X Y : Type 0} (f : Y → X → Y) (start : Y) (xs : List X) (x : X) → fold f start (xs ++ x ∷ []) ≡ f (fold f start xs) x
fold_one f start [] x = refl
fold_one f start (y ∷ ys) x = fold_one f (f start y) ys x

pub fold_next : {X Y : Type 0} (f : Y → X → Y) (start : Y) (xs : List X) (i : ℕ) (x : X) → i < length xs → x ≡ get_or xs i x
    → fold f start (take (i + 1) xs) ≡ f (fold f start (take i xs)) x
fold_next f start xs i x within is = ap (fold f start) (take_next xs i x within is) ∙ fold_one f start (take i xs) x

-- the text of the next item, by what is seen of it
pub text_next : {X Y : Type 0} (f : Y → List ℕ) (v : X → Y) (xs : List X) (i : ℕ) (d : X) (old now next : List ℕ) → i < length xs
    → now ≡ old ++ flat_map f (map v (take i xs)) → next ≡ now ++ f (v (get_or xs i d)) → next ≡ old ++ flat_map f (map v (take (i + 1) xs))
text_next f v xs i d old now next within so_far more =
    let x = get_or xs i d in
    let grown : map v (take (i + 1) xs) ≡ map v (take i xs) ++ v x ∷ [] = ap (map v) (take_more xs i d within) ∙ map_push v (take i xs) x in
    let one : flat_map f (map v (take i xs) ++ v x ∷ []) ≡ flat_map f (map v (take i xs)) ++ f (v x) =
    flat_map-append f (map v (take i xs)) (v x ∷ []) ∙ ap (λ t. flat_map f (map v (take i xs)) ++ t) (append-nil (f (v x))) in
    more ∙ ap (λ t. t ++ f (v x)) so_far ∙ append_assoc old (flat_map f (map v (take i xs))) (f (v x))
    ∙ ap (λ t. old ++ t) (sym (ap (flat_map f) grown ∙ one))

-- what is appended piece by piece
pub pieces : (old a b d e t u v : List ℕ) → t ≡ old ++ a → u ≡ (t ++ b) ++ d → v ≡ u ++ e → v ≡ old ++ (((a ++ b) ++ d) ++ e)
pieces old a b d e t u v first next last =
    last ∙ ap (λ x. x ++ e) (next ∙ ap (λ x. (x ++ b) ++ d) first)
    ∙ ap (λ x. (x ++ d) ++ e) (append_assoc old a b) ∙ ap (λ x. x ++ e) (append_assoc old (a ++ b) d) ∙ append_assoc old ((a ++ b) ++ d) e

pub more_pieces : (old a d b k n t u w v : List ℕ) → t ≡ (old ++ a) ++ d → u ≡ t ++ b → w ≡ u ++ k → v ≡ w ++ n → v ≡ old ++ ((((a ++ d) ++ b) ++ k) ++ n)
more_pieces old a d b k n t u w v first next then last =
    last ∙ ap (λ x. x ++ n) (then ∙ ap (λ x. x ++ k) (next ∙ ap (λ x. x ++ b) first))
    ∙ ap (λ x. ((x ++ b) ++ k) ++ n) (append_assoc old a d) ∙ ap (λ x. (x ++ k) ++ n) (append_assoc old (a ++ d) b)
    ∙ ap (λ x. x ++ n) (append_assoc old ((a ++ d) ++ b) k) ∙ append_assoc old (((a ++ d) ++ b) ++ k) n

-- Lists that grow by one, and what is seen of their items.
use Rattle.std.proofs.Common.{◌≡◌, ℕ, ◌+◌, ◌<◌, Bool, ◌||◌, List, [], ◌∷◌, ◌++◌, length, map, take, get_or, refl, sym, ap, ◌∙◌, append_assoc}
use Rattle.std.specs.List.{list_any}
use Rattle.std.proofs.lemmas.List.{take_more, map_push}

-- whether some item passes a test of what is seen of it
pub list_any-map : {X Y : Type 0} (p : Y → Bool) (h : X → Y) (xs : List X) → list_any p (map h xs) ≡ list_any (λ x. p (h x)) xs
list_any-map p h [] = refl
list_any-map p h (x ∷ xs) = ap (λ b. p (h x) || b) (list_any-map p h xs)

-- what is seen of a list with its next item
seen_more : {X Y : Type 0} (h : X → Y) (xs : List X) (i : ℕ) (x : X) → i < length xs → x ≡ get_or xs i x
    → map h (take (i + 1) xs) ≡ map h (take i xs) ++ h x ∷ []
seen_more h xs i x within is =
    ap (map h) (take_more xs i x within) ∙ map_push h (take i xs) (get_or xs i x)
    ∙ ap (λ y. map h (take i xs) ++ h y ∷ []) (sym is)

-- and what a function gives of that, behind what was there
pub given_more : {X Y Z : Type 0} (g : Y → Z) (h : X → Y) (xs : List X) (i : ℕ) (x : X) (old now next : List Z) → i < length xs → x ≡ get_or xs i x
    → now ≡ old ++ map g (map h (take i xs)) → next ≡ now ++ g (h x) ∷ [] → next ≡ old ++ map g (map h (take (i + 1) xs))
given_more g h xs i x old now next within is so_far more =
    more ∙ ap (λ t. t ++ g (h x) ∷ []) so_far
    ∙ append_assoc old (map g (map h (take i xs))) (g (h x) ∷ [])
    ∙ ap (λ t. old ++ t) (sym (ap (map g) (seen_more h xs i x within is) ∙ map_push g (map h (take i xs)) (h x)))

-- What rows are warned of, by their places.
use Rattle.std.proofs.Common.{◌≡◌, ℕ, ◌+◌, ◌<◌, List, [], ◌∷◌, ◌++◌, length, map, take, get_or, sym, ap, ◌∙◌, arith, add-zero, length-take-le}
use Rattle.std.proofs.lemmas.List.{length-map}
use Rattle.std.specs.List.{flat_map, enumerate_from}
use Rattle.toml.specs.Data.{Data}
use Rattle.toml.specs.View.{view}
use Rattle.toml.specs.declared.value.Value.{Value}
use Rattle.hg_show.specs.Warnings.{by_place}
use Rattle.hg_show.proofs.TextLemmas.{joined, flat_one, viewed_next}

enumerate_push : {X : Type 0} (n : ℕ) (xs : List X) (x : X) → enumerate_from n (xs ++ x ∷ []) ≡ enumerate_from n xs ++ (n + length xs, x) ∷ []
enumerate_push n [] x = ap (λ (m : ℕ). (m, x) ∷ []) (sym (add-zero n))
enumerate_push n (y ∷ ys) x =
    let e : (n + 1) + length ys ≡ n + length (y ∷ ys) = omega arith in
    ap (λ rest. (n, y) ∷ rest) (enumerate_push (n + 1) ys x ∙ ap (λ (m : ℕ). enumerate_from (n + 1) ys ++ (m, x) ∷ []) e)

-- the next row
pub by_place_more : (f : ℕ → Data → List (List ℕ)) (rows : List Value) (i : ℕ) (row : Value) (old now next : List (List ℕ)) → i < length rows → row ≡ get_or rows i row
    → now ≡ old ++ by_place f (map view (take i rows)) → next ≡ now ++ f (i + 1) (view row) → next ≡ old ++ by_place f (map view (take (i + 1) rows))
by_place_more f rows i row old now next within is so_far more =
    let g : ℕ × Data → List (List ℕ) = λ line. f line.0 line.1 in
    let before : List Data = map view (take i rows) in
    let count : length before ≡ i = length-map (take i rows) view ∙ length-take-le i rows (omega arith) in
    let place : 1 + length before ≡ i + 1 = omega (arith, count) in
    let lines : enumerate_from 1 (map view (take (i + 1) rows)) ≡ enumerate_from 1 before ++ (i + 1, view row) ∷ [] =
    ap (enumerate_from 1) (viewed_next view rows i row within is) ∙ enumerate_push 1 before (view row)
    ∙ ap (λ (n : ℕ). enumerate_from 1 before ++ (n, view row) ∷ []) place in
    joined old (flat_map g (enumerate_from 1 before)) (f (i + 1) (view row)) now next so_far more
    ∙ ap (λ t. old ++ t) (sym (ap (flat_map g) lines ∙ flat_one g (enumerate_from 1 before) (i + 1, view row)))

-- Lists made of a range, and look-ups in heaps.
use Rattle.std.proofs.Common.{◌≤◌, zero, suc, ◌≡◌, ℕ, ◌+◌, ◌==◌, ◌<◌, inl, inr, Bool, true, false}
use Rattle.std.proofs.Common.{cond, ◌∷◌, [], List, map, set, Some, refl, sym, ap, ◌∙◌, arith, find}
use Rattle.std.specs.Option.{option_map}
use Rattle.std.specs.List.{range_with_len}
use Rattle.std.proofs.lemmas.Bool.{cases_eq}
use Rattle.std.proofs.lemmas.Grind.{get_or-set_at}
use Rattle.std.proofs.lemmas.List.{ext_get_or, length-set, get_or-set_other}
use Rattle.std.proofs.lemmas.List.FromFn.{length-map-range_with_len, get_or-map-range_with_len}
use Rattle.hg_agreement.specs.Holdings.{holding_of}
use Rattle.hg_agreement.specs.Parts.{Plain, is_of, holdings}

pub kept_find : (xs : List Plain) (segment : ℕ) → holding_of (holdings xs) segment ≡ option_map
    (λ one. one.holding) (find (is_of segment) xs)
kept_find [] segment = refl
kept_find (x ∷ xs) segment =
    elim (x.holding.number == segment) as (λ b. cond b (Some x.holding)
    (holding_of (holdings xs) segment) ≡ option_map (λ one. one.holding)
    (cond b (Some x) (find (is_of segment) xs))) [
      | true ↦ refl
      | false ↦ kept_find xs segment
    ]

pub finds : (f g : ℕ → Bool) (xs : List ℕ) → ((n : ℕ) → f n ≡ g n) → find f xs ≡ find g xs
finds f g [] e = refl
finds f g (x ∷ xs) e =
    ap (λ b. cond b (Some x) (find f xs)) (e x) ∙ ap (λ o. cond (g x) (Some x) o) (finds f g xs e)

pub maps : {X : Type 0} (f g : ℕ → X) (xs : List ℕ) → ((n : ℕ) → f n ≡ g n) → map f xs ≡ map g xs
maps {X} f g [] e = refl
maps {X} f g (x ∷ xs) e = ap (λ y. y ∷ map f xs) (e x) ∙ ap (λ ys. g x ∷ ys) (maps f g xs e)

pub maps_below : {X : Type 0} (f g : ℕ → X) (a n : ℕ) → ((k : ℕ) → a ≤ k → k < a + n → f k ≡ g k)
    → map f (range_with_len a n) ≡ map g (range_with_len a n)
maps_below {X} f g a zero e = refl
maps_below {X} f g a (suc n) e =
    ap (λ y. y ∷ map f (range_with_len (a + 1) n)) (e a (omega arith) (omega arith))
    ∙ ap (λ ys. g a ∷ ys) (maps_below f g (a + 1) n (λ k low high. e k (omega arith) (omega arith)))

-- a list by number after a change at one number
pub map_set : {X : Type 0} (f g : ℕ → X) (n p : ℕ) (d : X) → p < n
    → ((q : ℕ) → (q ≡ p → ⊥) → g q ≡ f q) → map g (range_with_len 0 n) ≡ set
    (map f (range_with_len 0 n)) p (g p)
map_set {X} f g n p d h same =
    let lf = length-map-range_with_len f 0 n in
    let lg = length-map-range_with_len g 0 n in
    let ls = length-set (map f (range_with_len 0 n)) p (g p) in
    ext_get_or d _ _ (omega arith) (λ k below.
    get_or-map-range_with_len g 0 n k k d (omega arith) (omega arith)
    ∙ elim (cases_eq k p) [
      | inl e ↦ ap g e
          ∙ sym (get_or-set_at (map f (range_with_len 0 n)) p k (g p) d e (omega arith))
      | inr ne ↦
          same k ne
          ∙ sym (get_or-map-range_with_len f 0 n k k d (omega arith) (omega arith))
          ∙ sym (get_or-set_other (map f (range_with_len 0 n)) p k (g p) d ne)
    ])

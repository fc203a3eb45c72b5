-- Texts by number, one after the other.
use Rattle.std.proofs.Common.{◌≡◌, Bor, ℕ, ◌+◌, List, [], ◌∷◌, ◌++◌, map, sym, ap, subst, ◌∙◌, arith}
use Rattle.std.specs.List.{range_with_len}
use Rattle.std.proofs.lemmas.List.FromFn.{map-range_with_len_more}

-- the texts of names
abbrev pub texts : List (Bor (List ℕ)) → List (List ℕ)
texts names = map (λ name. name.now) names

-- what each number stands for, with one number more
pub each_more : {A : Type 0} (f : ℕ → A) (i : ℕ) (now next : List A) → now ≡ map f (range_with_len 0 i) → next ≡ now ++ f i ∷ [] → next ≡ map f (range_with_len 0 (i + 1))
each_more f i now next so_far more =
    more ∙ ap (λ t. t ++ f i ∷ []) so_far ∙ sym (map-range_with_len_more f 0 i i (omega arith))

pub each_all : {A : Type 0} (f : ℕ → A) (i n : ℕ) (now : List A) → i ≡ n → now ≡ map f (range_with_len 0 i) → now ≡ map f (range_with_len 0 n)
each_all f i n now e so_far = subst (λ m. now ≡ map f (range_with_len 0 m)) e so_far

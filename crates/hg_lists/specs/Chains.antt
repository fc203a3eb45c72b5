-- Lists that are linked by number: a link is 0 at the end, otherwise a number plus 1.
use Rattle.std.specs.Prelude.{◌≡◌, ℕ, zero, suc, List, [], ◌∷◌}

-- the numbers that are met from a link on, at most so many
unfoldable pub chain : ℕ → (ℕ → ℕ) → ℕ → List ℕ
chain zero next link = []
chain (suc n) next zero = []
chain (suc n) next (suc i) = i ∷ chain n next (next i)

-- from the link on the numbers are those of the list, and then the end
abbrev pub IsChain : (ℕ → ℕ) → ℕ → List ℕ → Type 0
IsChain next link [] = link ≡ 0
IsChain next link (x ∷ xs) = (link ≡ suc x) × IsChain next (next x) xs

-- the same, where each has a link back to the one before
abbrev pub IsDouble : (ℕ → ℕ) → (ℕ → ℕ) → ℕ → ℕ → List ℕ → Type 0
IsDouble next prev before link [] = link ≡ 0
IsDouble next prev before link (x ∷ xs) =
    (link ≡ suc x) × (prev x ≡ before) × IsDouble next prev (suc x) (next x) xs

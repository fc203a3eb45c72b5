-- How a text stands in the room that a host has for it.
use Rattle.std.specs.Prelude.{◌≡◌, ℕ, List, ◌++◌, ◌⊎◌, length, take, drop, min}

-- so many bytes of the text, as many as there is room for, and behind them what stood there before
pub record IsToldIn (text old : List ℕ) (count : ℕ) (new : List ℕ) : Type 0 where
  pub fits : count ≡ min (length text) (length old)
  pub bytes : new ≡ take count text ++ drop count old

-- that, or nothing was written
abbrev pub IsToldOrNot : List ℕ → List ℕ → ℕ → List ℕ → Type 0
IsToldOrNot text old count new = IsToldIn text old count new ⊎ ((count ≡ 0) × (new ≡ old))

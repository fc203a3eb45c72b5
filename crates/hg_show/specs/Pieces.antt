-- Pieces of text.
use Rattle.std.specs.Prelude.{ℕ, ◌-◌, ◌++◌, List, length, replicate}

-- a text with blanks before it, or behind it, up to a width
unfoldable pub behind_blanks : ℕ → List ℕ → List ℕ
behind_blanks width text = replicate (width - length text) 32 ++ text

unfoldable pub before_blanks : ℕ → List ℕ → List ℕ
before_blanks width text = text ++ replicate (width - length text) 32

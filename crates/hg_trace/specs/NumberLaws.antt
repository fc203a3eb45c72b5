-- A law of numbers.
use Rattle.std.specs.Prelude.{◌≡◌, ℕ, ◌<◌, ◌≤◌, ◌^◌, ◌↔◌, List, Some, decimal}
use Rattle.hg_trace.specs.Numbers.{number_below}

-- a word is read as a number below the limit exactly where it is how that number is written
abbrev pub NumbersAreDecimals : Type 0
NumbersAreDecimals =
    (limit n : ℕ) (word : List ℕ) → limit ≤ 2 ^ 64
    → ((number_below limit word ≡ Some n) ↔ ((word ≡ decimal n) × (n < limit)))

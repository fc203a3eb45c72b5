-- What a number's digits mean.
use Rattle.std.specs.Prelude.{ℕ, ◌==◌, ◌&&◌, ◌+◌, ◌*◌, ◌-◌, ◌^◌, Bool, false, nat_le, nat_lt, List}
use Rattle.std.specs.Prelude.{[], ◌∷◌, length, Option, Some, None, if◌then◌else◌}
use Rattle.std.specs.List.{list_all}

abbrev pub is_digit : ℕ → Bool
is_digit b = nat_le 48 b && nat_le b 57

-- digits, of which the first is a 0 only where it stands alone
abbrev pub is_numeral : List ℕ → Bool
is_numeral [] = false
is_numeral (digit ∷ digits) =
    if digit == 48 then length digits == 0 else list_all is_digit (digit ∷ digits)

-- the number whose digits are those of n and then these
abbrev pub value_on : ℕ → List ℕ → ℕ
value_on n [] = n
value_on n (digit ∷ digits) = value_on (10 * n + (digit - 48)) digits

abbrev pub decimal_value : List ℕ → ℕ
decimal_value digits = value_on 0 digits

-- the number whose digits are those of n and then these, where they are digits and it has at most
-- 64 bits
abbrev pub number_on : ℕ → List ℕ → Option ℕ
number_on n digits =
    if list_all is_digit digits && nat_lt (value_on n digits) (2 ^ 64)
    then Some (value_on n digits) else None

-- the number that a word is, where it is one below the limit
abbrev pub number_below : ℕ → List ℕ → Option ℕ
number_below limit word =
    if is_numeral word && nat_lt (decimal_value word) limit then Some (decimal_value word) else None

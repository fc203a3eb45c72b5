-- Where in a text something stands, by line and column, both from 1. A column counts characters.
use Rattle.std.specs.Prelude.{ℕ, ◌==◌, ◌+◌, ◌/◌, Bool, not, List, fold, if◌then◌else◌}
use Rattle.hg_hints.specs.declared.spot.Spot.{Spot}

-- a byte that begins a character
abbrev pub begins : ℕ → Bool
begins b = not (b / 64 == 2)

-- behind a line's end the next line begins, and each character takes a column
abbrev pub behind : Spot → ℕ → Spot
behind spot b =
    if b == 10 then record { line = spot.line + 1; column = 1 }
    else (if begins b then record { line = spot.line; column = spot.column + 1 } else spot)

-- behind these bytes
abbrev pub spot_behind : List ℕ → Spot
spot_behind text = fold behind (record { line = 1; column = 1 }) text

-- What a row of values shows that is written as far as it was touched.
use Rattle.std.specs.Prelude.{ℕ, ◌-◌, List, ◌++◌, length, replicate}

-- the values that were touched, and behind them blanks up to the room that there is
abbrev pub shown : {T : Type 0} → T → List T → ℕ → List T
shown blank touched room = touched ++ replicate (room - length touched) blank

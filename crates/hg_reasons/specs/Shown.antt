-- What is shown of a line.
use Rattle.std.specs.Prelude.{ℕ, ◌==◌, ◌||◌, ◌&&◌, not, nat_lt, if◌then◌else◌}

-- a byte as it is shown: for a control byte other than a tab a question mark
abbrev pub shown : ℕ → ℕ
shown b = if (nat_lt b 32 && not (b == 9)) || b == 127 then 63 else b

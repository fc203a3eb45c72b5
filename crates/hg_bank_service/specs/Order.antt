-- The order in which cores are asked: from the current one to the last, then from the first.
use Rattle.std.specs.Prelude.{ℕ, ◌+◌, ◌-◌, nat_lt, if◌then◌else◌}

-- how many of so many cores are asked before this one
abbrev pub turn : ℕ → ℕ → ℕ → ℕ
turn current count core =
    if nat_lt core current then core + (count - current) else core - current

-- The order in which cores are asked.
use Rattle.std.specs.Prelude.{ℕ, ◌-◌, List, ◌++◌}
use Rattle.std.specs.List.{range_with_len}

-- each of so many cores once: from the current one to the last, then from the first
abbrev pub round_from : ℕ → ℕ → List ℕ
round_from current count = range_with_len current (count - current) ++ range_with_len 0 current

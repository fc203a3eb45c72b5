-- What the number of a core means to a host.
use Rattle.std.specs.Prelude.{ℕ, min}

-- A number up to 65535 as it is, and each other as 65535, which no bank has: so no number above it
-- is another core's
abbrev pub core_of : ℕ → ℕ
core_of number = min number 65535

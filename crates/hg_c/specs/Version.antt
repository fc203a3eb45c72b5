-- The number of a release.
use Rattle.std.specs.Prelude.{ℕ, ◌*◌, ◌+◌}

-- minor and patch are below 256
abbrev pub release : ℕ → ℕ → ℕ → ℕ
release major minor patch = major * 65536 + minor * 256 + patch

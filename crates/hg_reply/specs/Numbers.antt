-- What the numbers of a host mean, which have 32 bits.
use Rattle.std.specs.Prelude.{ℕ, min}
use Rattle.hg_place.specs.declared.Actor.{Actor}

-- A number up to 255 as it is, and each other as 255: so no number above it is another's, and each
-- is no tenant's, arena's or segment's, as 255 is
abbrev pub byte_of : ℕ → ℕ
byte_of number = min number 255

-- who asks, by a tenant's number
abbrev pub actor_of : ℕ → Actor
actor_of number = record { 0 = byte_of number }

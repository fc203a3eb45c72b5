-- How many places the blocks of a page have.
use Rattle.std.specs.Prelude.{ℕ, Option, Some, None}
use Rattle.hg_size.specs.Sizes.{places_of}

-- those of the page's class; none where it has no class
abbrev pub places_by : Option ℕ → ℕ
places_by None = 0
places_by (Some size) = places_of size

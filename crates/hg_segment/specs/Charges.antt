-- What the places of a segment count against a tenant's limit.
use Rattle.std.specs.Prelude.{ℕ, ◌*◌, ◌/◌, ◌==◌, if◌then◌else◌, List, length, Option, Some, None}
use Rattle.std.specs.Prelude.{sum_by}
use Rattle.std.specs.List.{range_with_len}
use Rattle.hg_place.specs.declared.geometry.TheConstants.{PAGE_PLACES, WORD_BYTES}
use Rattle.hg_place.specs.declared.standing.Standing.{Standing}
use Rattle.hg_place.specs.declared.standing.Standing.TheVariants.{Home, Open}
use Rattle.hg_place.specs.Standings.{standing_at}
use Rattle.hg_segment.specs.Kept.{class_at}

-- the bytes of a block of a page
abbrev pub block_bytes : Option ℕ → ℕ
block_bytes None = 0
block_bytes (Some size) = WORD_BYTES * size

-- what a place adds to the charge of a tenant: the bytes of its block, live or parted
abbrev pub share_of : Standing → ℕ → ℕ → ℕ
share_of (Home g) bytes tenant = 0
share_of (Open g owner) bytes tenant = if owner == tenant then bytes else 0

abbrev pub share : List Standing → List (Option ℕ) → ℕ → ℕ → ℕ
share records classes tenant at =
    share_of (standing_at records at) (block_bytes (class_at classes (at / PAGE_PLACES))) tenant

abbrev pub charge_of : List Standing → List (Option ℕ) → ℕ → ℕ
charge_of records classes tenant =
    sum_by (share records classes tenant) (range_with_len 0 (length records))

-- Names that are like another.
use Rattle.std.specs.Prelude.{◌==◌, ◌*◌, ◌&&◌, ℕ, Bool, List, Option, Some, None, find, length, nat_le}
use Rattle.std.specs.Prelude.{if◌then◌else◌}
use Rattle.std.specs.Str.{chars}
use Rattle.strsim.specs.Edits.{osa_table}

-- how many edits lead from one name to another: a character more, less or another one, or two next
-- to each other in turn
abbrev pub edits : List ℕ → List ℕ → ℕ
edits name other = (osa_table (chars name) (chars other)).last_row (length (chars other))

-- a longer text is like no other
abbrev pub is_short : List ℕ → Bool
is_short name = nat_le (length name) 64

-- at so many edits
abbrev pub is_at : ℕ → List ℕ → List ℕ → Bool
is_at n name other = is_short other && (edits name other == n)

-- the first of these names at so many edits, which are at most half of the name's bytes
abbrev pub near_by : ℕ → List (List ℕ) → List ℕ → Option (List ℕ)
near_by n names name =
    if nat_le (2 * n) (length name) && is_short name then find (is_at n name) names else None

abbrev pub or_near : Option (List ℕ) → Option (List ℕ) → Option (List ℕ)
or_near None other = other
or_near (Some name) other = Some name

-- the first name at one edit, and where there is none the first at two
abbrev pub near : List (List ℕ) → List ℕ → Option (List ℕ)
near names name = or_near (near_by 1 names name) (near_by 2 names name)

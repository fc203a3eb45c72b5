-- Standings in 8 bytes.
use Rattle.std.specs.Prelude.{true, false, if◌then◌else◌}
use Rattle.hg_place.specs.declared.standing.Standing.{Standing}
use Rattle.hg_place.specs.declared.standing.Standing.TheVariants.{Home, Open}
use Rattle.hg_place.specs.declared.packed.PackedStanding.TheInside.{Inside}

-- what was packed
abbrev pub standing_of : Inside → Standing
standing_of p = if p.is_open then Open p.generation p.owner else Home p.generation

-- and how
abbrev pub packed_of : Standing → Inside
packed_of (Home generation) = record { generation = generation; owner = 0; is_open = false }
packed_of (Open generation owner) =
    record { generation = generation; owner = owner; is_open = true }

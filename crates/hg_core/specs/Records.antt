-- What a place is told to be, and what it is told by.
use Rattle.std.specs.Prelude.{ℕ, Bool, true, false}
use Rattle.hg_place.specs.declared.standing.Standing.{Standing}
use Rattle.hg_place.specs.declared.standing.Standing.TheVariants.{Home, Open}
use Rattle.hg_machine.specs.Life.{Life, home, live, parted, Record}
use Rattle.hg_core.specs.declared.records.PlaceLife.{PlaceLife}
use Rattle.hg_core.specs.declared.records.PlaceLife.TheVariants as told
use Rattle.hg_core.specs.declared.records.PlaceRecord.{PlaceRecord}

-- a life without the words of its block
abbrev pub life_told : Life → PlaceLife
life_told home = told.Home
life_told (live owner words) = told.Live owner
life_told (parted owner words) = told.Parted owner

-- what is known of a place, without the words of its block
abbrev pub record_told : Record → PlaceRecord
record_told r = record { generation = r.generation; life = life_told r.life }

-- the life of an open place, by whether its slot word is a freed one
abbrev pub open_told : ℕ → Bool → PlaceLife
open_told owner true = told.Parted owner
open_told owner false = told.Live owner

-- what is known of a place that stands so
abbrev pub standing_told : Standing → Bool → PlaceRecord
standing_told (Home generation) is_freed = record { generation = generation; life = told.Home }
standing_told (Open generation owner) is_freed =
    record { generation = generation; life = open_told owner is_freed }

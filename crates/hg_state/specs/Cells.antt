-- What stands at a place, to be drawn.
use Rattle.std.specs.Prelude.{◌≡◌, ℕ, ◌==◌, Bool, true, false, if◌then◌else◌}
use Rattle.hg_machine.specs.State.{State, record_at}
use Rattle.hg_core.specs.Kinds.{is_kind}
use Rattle.hg_core.specs.Records.{record_told}
use Rattle.hg_core.specs.declared.kinds.PlaceKind.TheVariants as kind
use Rattle.hg_core.specs.declared.records.PlaceLife.{PlaceLife}
use Rattle.hg_core.specs.declared.records.PlaceLife.TheVariants as life
use Rattle.hg_core.specs.declared.records.PlaceRecord.{PlaceRecord}
use Rattle.hg_state.specs.declared.cell.Cell.{Cell}
use Rattle.hg_state.specs.declared.cell.Cell.TheVariants as cell

-- a place without a block is worn where it was given out as often as this
abbrev pub cell_by : ℕ → ℕ → PlaceLife → Cell
cell_by greatest generation (life.Live owner) = cell.Live owner
cell_by greatest generation (life.Parted owner) = cell.Parted owner
cell_by greatest generation life.Home =
    if generation == greatest then cell.Worn else cell.Free

abbrev pub cell_of : ℕ → PlaceRecord → Cell
cell_of greatest known = cell_by greatest known.generation known.life

-- the place of this number
abbrev pub cell_at : State → ℕ → Cell
cell_at s place = cell_of s.policy.max_generation (record_told (record_at s place))

-- what a cell is
abbrev pub is_live_cell : Cell → Bool
is_live_cell (cell.Live owner) = true
is_live_cell _ = false

abbrev pub is_parted_cell : Cell → Bool
is_parted_cell (cell.Parted owner) = true
is_parted_cell _ = false

abbrev pub is_worn_cell : Cell → Bool
is_worn_cell cell.Worn = true
is_worn_cell _ = false

-- what is drawn of a place is what it counts as
abbrev pub CellsAreKinds : Type 0
CellsAreKinds =
    (s : State) (place : ℕ)
    → (is_live_cell (cell_at s place) ≡ is_kind s kind.Live place)
    × (is_parted_cell (cell_at s place) ≡ is_kind s kind.Parted place)
    × (is_worn_cell (cell_at s place) ≡ is_kind s kind.Worn place)

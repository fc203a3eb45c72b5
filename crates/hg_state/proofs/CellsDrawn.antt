-- A place is drawn as what it counts as.
use Rattle.std.proofs.Common.{◌≡◌, ℕ, ◌==◌, ◌&&◌, Bool, true, false, refl}
use Rattle.std.specs.Prelude.{if◌then◌else◌}
use Rattle.hg_machine.specs.Life.{Life, home, live, parted, is_home, is_live, is_parted}
use Rattle.hg_machine.specs.State.{State, record_at}
use Rattle.hg_core.specs.Records.{life_told}
use Rattle.hg_state.specs.Cells.{CellsAreKinds, cell_by, is_live_cell, is_parted_cell, is_worn_cell}
use Rattle.hg_state.specs.declared.cell.Cell.{Cell}
use Rattle.hg_state.specs.declared.cell.Cell.TheVariants as cell

abbrev worn_or_free : Bool → Cell
worn_or_free b = if b then cell.Worn else cell.Free

not_live : (b : Bool) → is_live_cell (worn_or_free b) ≡ false
not_live true = refl
not_live false = refl

not_parted : (b : Bool) → is_parted_cell (worn_or_free b) ≡ false
not_parted true = refl
not_parted false = refl

is_worn : (b : Bool) → is_worn_cell (worn_or_free b) ≡ b
is_worn true = refl
is_worn false = refl

-- where this is the greatest generation
of_life : (greatest g : ℕ) (life : Life)
    → (is_live_cell (cell_by greatest g (life_told life)) ≡ is_live life)
    × (is_parted_cell (cell_by greatest g (life_told life)) ≡ is_parted life)
    × (is_worn_cell (cell_by greatest g (life_told life)) ≡ (is_home life && g == greatest))
of_life greatest g home = (not_live (g == greatest), not_parted (g == greatest), is_worn (g == greatest))
of_life greatest g (live owner words) = (refl, refl, refl)
of_life greatest g (parted owner words) = (refl, refl, refl)

pub cells_are_kinds : CellsAreKinds
cells_are_kinds s place = of_life s.policy.max_generation (record_at s place).generation (record_at s place).life

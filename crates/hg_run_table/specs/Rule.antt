-- What a table of the words keeps between any two steps.
use Rattle.std.specs.Prelude.{map}
use Rattle.atomic_table.specs.Table as table
use Rattle.hg_machine.specs.Policy.{Policy}
use Rattle.hg_history.specs.OneRun.{IsOneRun}
use Rattle.hg_roles.specs.Served.{places_of_policy}
use Rattle.hg_table.specs.LifeRule.{LifeRule}
use Rattle.hg_table.specs.View as lives
use Rattle.hg_run_table.specs.declared.part.SeatView.{SeatView}
use Rattle.hg_run_table.specs.Openings.{first_parts}
use Rattle.hg_run_table.specs.Seated.{seated}

-- the words, and what each seat knows
abbrev pub Table : Type 0
Table = table.State (Unit {0}) SeatView

-- the same table, with what each seat knows of words and lives
abbrev pub lives_of : Table → lives.Table
lives_of now = record {
  words = now.words;
  homes = now.homes;
  views = map (λ view. view.lives) now.views;
}

-- the words keep the life rule, and all calls that were logged are one run
pub record KeepsBoth (policy : Policy) (now : Table) : Type 0 where
  pub lives : LifeRule (places_of_policy policy) (lives_of now)
  pub run : IsOneRun (seated policy) now.words (map (λ view. view.run) now.views)

-- the first seat records all places as home, and has each part of the service
abbrev pub first_view : Policy → SeatView
first_view policy =
    record { lives = lives.initial_view (places_of_policy policy); run = first_parts policy }

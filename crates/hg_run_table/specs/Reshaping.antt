-- How seats are cut and joined.
use Rattle.std.specs.Prelude.{ℕ, [], ◌++◌, take, drop}
use Rattle.hg_table.specs.Steps.{Cut, kept_by, given_by, MayCut}
use Rattle.hg_table.specs.View.{View}
use Rattle.hg_run_table.specs.declared.part.SeatView.{SeatView}

-- how what a seat knows of words and lives is cut: so many first parts stay with it, and the others
-- go to the new one; or a seat of one part as hg_table cuts one
pub data LivesCut : Type 0 where
  front : ℕ → LivesCut
  one_part : Cut → LivesCut

-- what stays with the seat, and what goes to the new one
abbrev pub lives_kept : LivesCut → View → View
lives_kept (front count) lives = take count lives
lives_kept (one_part cut) lives = kept_by cut lives

abbrev pub lives_given : LivesCut → View → View
lives_given (front count) lives = drop count lives
lives_given (one_part cut) lives = given_by cut lives

-- any seat may be cut between its parts
abbrev pub MayCutLives : LivesCut → View → Type 0
MayCutLives (front count) lives = Unit {0}
MayCutLives (one_part cut) lives = MayCut cut lives

-- so many parts of the run stay, and the others go
abbrev pub kept : LivesCut → ℕ → SeatView → SeatView
kept cut stay view = record { lives = lives_kept cut view.lives; run = take stay view.run }

abbrev pub given : LivesCut → ℕ → SeatView → SeatView
given cut stay view = record { lives = lives_given cut view.lives; run = drop stay view.run }

-- two become one
abbrev pub both : SeatView → SeatView → SeatView
both one other = record { lives = one.lives ++ other.lives; run = one.run ++ other.run }

abbrev pub spent : SeatView
spent = record { lives = []; run = [] }

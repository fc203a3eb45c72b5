-- What a step tells the seat that makes it.
use Rattle.std.specs.Prelude.{◌≡◌, ◌≢◌, ℕ, ◌+◌, List, map}
use mathlib.Core.Option.{some}
use lib.ListN.{get_elem?}
use Rattle.atomic_table.specs.Table.{Me, Step}
use Rattle.hg_machine.specs.declared.Event.{Event}
use Rattle.hg_roles.specs.Roles.{Role}
use Rattle.hg_table.specs.Steps.{WordStep, look, open_as, take_home}
use Rattle.hg_table.specs.Steps.{known_after, view_after, left_by}
use Rattle.hg_table.specs.declared.view.Part as life
use Rattle.hg_table.specs.Told.{IsShownTo, AreApart}
use Rattle.hg_table.specs.View.{View}
use Rattle.hg_run_table.specs.declared.part.SeatView.{SeatView}
use Rattle.hg_run_table.specs.Asked.{HasLeft, asking}
use Rattle.hg_run_table.specs.Found.{IsAgreed, IsFound}
use Rattle.hg_run_table.specs.Seated.{HaveRoles}

-- a seat's view, and what it holds of the table beside it, which is nothing here
abbrev pub Mine : Type 0
Mine = Me (Unit {0}) SeatView

-- the index of the word, and the operands
abbrev pub Told : Type 0
Told = Step (Unit {0})

-- the word is one that the life rule lets the seat find, and of words and lives it knows then what
-- the step makes of it
abbrev pub Tells : WordStep → Told → Mine → ℕ → Mine → Type 0
Tells step told mine word after =
    IsShownTo told.word word mine.0.lives
    × (after.0.lives ≡ map (known_after step told.word word) mine.0.lives) × (after.1 ≡ mine.1)

-- the same where one of the parts that the seat has of them makes the step
abbrev pub TellsBy : ℕ → WordStep → Told → Mine → ℕ → Mine → Type 0
TellsBy by step told mine word after =
    IsShownTo told.word word mine.0.lives
    × (after.0.lives ≡ view_after by step told.word word mine.0.lives) × (after.1 ≡ mine.1)

-- each role is what the word that was found makes of it
abbrev pub Changes : List Role → (ℕ → Role → Role) → ℕ → Mine → Type 0
Changes roles change word after = HaveRoles after.0.run (map (change word) roles)

-- no two parts of a seat have ended one life, or record one place
abbrev pub ArePartsApart : View → Type 0
ArePartsApart view =
    (j k : ℕ) (a b : life.Part) → get_elem? view j ≡ some a → get_elem? view k ≡ some b → j ≢ k
    → AreApart a b

-- at the word of a place, which stands behind the spare one, some state that agrees with the parts shows the
-- word
abbrev pub FoundAt : Told → ℕ → Mine → Type 0
FoundAt told word mine = (place : ℕ) → told.word ≡ place + 1 → IsFound place word mine.0.run

-- steps that decide nothing
abbrev pub looked : Told → Mine → ℕ → Mine → Type 0
looked told mine word after =
    Tells look told mine word after × (after.0.run ≡ mine.0.run) × ArePartsApart mine.0.lives

abbrev pub took : ℕ → Told → Mine → ℕ → Mine → Type 0
took by told mine word after =
    TellsBy by take_home told mine word after × (after.0.run ≡ mine.0.run) × FoundAt told word mine

-- steps that decide calls
module _ (roles : List Role) (change : ℕ → Role → Role) where
  abbrev pub looked_deciding : Told → Mine → ℕ → Mine → Type 0
  looked_deciding told mine word after =
      Tells look told mine word after × Changes roles change word after × FoundAt told word mine

  -- an exchange, of the kind that the word expected makes it
  abbrev pub exchanged_deciding : (ℕ → WordStep) → ℕ → Told → Mine → ℕ → Mine → Type 0
  exchanged_deciding kind by told mine word after =
      TellsBy by (kind told.first) told mine word after × Changes roles change word after
      × FoundAt told word mine

  -- a store tells the word that was stored, not the one that was found
  abbrev pub opened : ℕ → Told → Mine → ℕ → Mine → Type 0
  opened by told mine live after =
      ((word : ℕ) × IsShownTo told.word word mine.0.lives)
      × (after.0.lives ≡ view_after by (open_as live) told.word live mine.0.lives)
      × (after.1 ≡ mine.1) × Changes roles change live after

  -- at the spare word nothing is told of words and lives; some state agreed with all parts
  abbrev pub decided : Told → Mine → ℕ → Mine → Type 0
  decided told mine word after =
      (after.0.lives ≡ mine.0.lives) × (after.1 ≡ mine.1) × Changes roles change word after
      × IsAgreed mine.0.run

-- what a worker of the seat is asked, if one is, is answered at the place of the word, which stands
-- behind the spare one
abbrev pub Answered : Told → ℕ → ℕ → Mine → Mine → Type 0
Answered told word left mine after =
    (place : ℕ) → told.word ≡ place + 1 → HasLeft place word left mine.0.run after.0.run

-- steps that answer it
abbrev pub looked_answering : Told → Mine → ℕ → Mine → Type 0
looked_answering told mine word after =
    Tells look told mine word after
    × Answered told word word mine after × FoundAt told word mine

abbrev pub exchanged_answering : (ℕ → WordStep) → ℕ → Told → Mine → ℕ → Mine → Type 0
exchanged_answering kind by told mine word after =
    TellsBy by (kind told.first) told mine word after
    × Answered told word (left_by (kind told.first) word) mine after × FoundAt told word mine

abbrev pub opened_answering : ℕ → Told → Mine → ℕ → Mine → Type 0
opened_answering by told mine live after =
    ((word : ℕ) × IsShownTo told.word word mine.0.lives
    × Answered told word live mine after × FoundAt told word mine)
    × (after.0.lives ≡ view_after by (open_as live) told.word live mine.0.lives)
    × (after.1 ≡ mine.1)

-- at the spare word: the parts of the seat are asked this from then on
abbrev pub asks : List (List Event) → Told → Mine → ℕ → Mine → Type 0
asks asked told mine word after =
    (after.0.lives ≡ mine.0.lives) × (after.1 ≡ mine.1)
    × (after.0.run ≡ map (asking asked) mine.0.run)

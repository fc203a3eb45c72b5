-- What a look tells.
use Rattle.std.specs.Prelude.{◌≡◌, ℕ}
use Rattle.hg_place.specs.declared.Place.{Place}
use Rattle.hg_place.specs.declared.Actor.{Actor}
use Rattle.hg_place.specs.Places.{number_of}
use Rattle.hg_machine.specs.declared.Event.TheVariants as event
use Rattle.hg_machine.specs.declared.Answer.TheVariants as answer
use Rattle.hg_machine.specs.declared.Row.{Row}
use Rattle.hg_machine.specs.State.{State}
use Rattle.hg_machine.specs.Listing.{line_of, line_at}
use Rattle.hg_machine.specs.Steps.{Step}

-- the row of a served Look is the line that a listing has of the place
abbrev pub LooksTellTheirLine : Type 0
LooksTellTheirLine =
    (s : State) (worker : ℕ) (actor : Actor) (place : Place) (row : Row) (next : State)
    → Step s worker (event.Look actor place) (answer.Listed row) next
    → line_of row ≡ line_at s (number_of place)

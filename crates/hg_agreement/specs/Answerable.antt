-- Laws: room in a view is room in the state, and what isn't refused has an answer.
use Rattle.std.specs.Prelude.{◌≡◌, ℕ, ◌-◌, ◌≤◌, true, length, Option, None}
use Rattle.hg_place.specs.declared.geometry.TheConstants.{MAX_SEGMENTS}
use Rattle.hg_place.specs.declared.Actor.{Actor}
use Rattle.hg_place.specs.declared.Place.{Place}
use Rattle.hg_place.specs.declared.Handle.{Handle}
use Rattle.hg_place.specs.declared.standing.Standing.TheVariants.{Home}
use Rattle.hg_place.specs.Places.{number_of}
use Rattle.hg_machine.specs.declared.Event.TheVariants as event
use Rattle.hg_machine.specs.declared.Row.{Row}
use Rattle.hg_machine.specs.State.{State}
use Rattle.hg_machine.specs.Room.{is_room}
use Rattle.hg_machine.specs.Request.{size_of}
use Rattle.hg_agreement.specs.Views.{View, Shown, slot_shown}
use Rattle.hg_agreement.specs.Agreement.{Agrees}
use Rattle.hg_agreement.specs.Seen.{refusal_in, IsRowIn, is_room_in}

-- a place has room in the view exactly where it has room in a state that agrees
abbrev pub RoomsAgree : Type 0
RoomsAgree =
    (m : State) (view : View) (shown : Option Shown) (arena size place : ℕ) → Agrees m view shown
    → is_room m view.worker arena size place ≡ is_room_in view arena size place

-- an Alloc that isn't refused has a place with room, whose next generation a handle has
abbrev pub RoomIsSomeHandle : Type 0
RoomIsSomeHandle =
    (view : View) (shown : Option Shown) (actor : Actor) (arena bytes : ℕ)
    → length view.policy.segments ≤ MAX_SEGMENTS
    → refusal_in view (slot_shown shown) (event.Alloc actor arena bytes) ≡ None
    → (handle : Handle) × (is_room_in view arena (size_of bytes) (number_of handle.place) ≡ true)
    × (view.standing (number_of handle.place) ≡ Home (handle.generation - 1))

-- a Look that isn't refused has a row
abbrev pub RowIsThere : Type 0
RowIsThere =
    (view : View) (shown : Option Shown) (actor : Actor) (place : Place)
    → refusal_in view (slot_shown shown) (event.Look actor place) ≡ None
    → (row : Row) × IsRowIn view (slot_shown shown) place row

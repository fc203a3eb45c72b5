-- What is never served, whatever is granted.
use Rattle.std.specs.Prelude.{◌≡◌, ℕ, true, List, Option, Some, None}
use Rattle.hg_place.specs.declared.Place.{Place}
use Rattle.hg_place.specs.declared.Right.{Right}
use Rattle.hg_place.specs.declared.Right.TheVariants as right
use Rattle.hg_place.specs.Places.{number_of}
use Rattle.hg_machine.specs.declared.Event.{Event}
use Rattle.hg_machine.specs.declared.Event.TheVariants as event
use Rattle.hg_machine.specs.declared.Answer.{Answer}
use Rattle.hg_machine.specs.Policy.{forbids}
use Rattle.hg_machine.specs.Life.{owner_of}
use Rattle.hg_machine.specs.State.{State, record_at}
use Rattle.hg_machine.specs.Steps.{Step, Run}
use Rattle.hg_laws.specs.Asked.{actor_of, IsDenied}

-- the right that an event asks for
abbrev pub right_of : Event → Option Right
right_of (event.Free actor handle) = Some right.Free
right_of (event.Read actor handle index) = Some right.Read
right_of (event.Write actor handle index value) = Some right.Write
right_of (event.Look actor place) = Some right.List
right_of event = None

-- the place of whose block it asks
abbrev pub place_of : Event → Option Place
place_of (event.Free actor handle) = Some handle.place
place_of (event.Read actor handle index) = Some handle.place
place_of (event.Write actor handle index value) = Some handle.place
place_of (event.Look actor place) = Some place
place_of event = None

-- after any run a right that is forbidden to the actor on blocks of the block's owner is denied,
-- and nothing changes
abbrev pub ForbiddenIsNeverServed : Type 0
ForbiddenIsNeverServed =
    (old : State) (events : List (ℕ × Event)) (answers : List Answer) (s next : State)
    (worker : ℕ) (asked : Event) (given : Answer) (actor : ℕ) (right : Right) (place : Place)
    → Run old events answers s
    → actor_of asked ≡ Some actor → right_of asked ≡ Some right → place_of asked ≡ Some place
    → forbids old.policy (owner_of (record_at s (number_of place)).life) actor right ≡ true
    → Step s worker asked given next
    → IsDenied given × (next ≡ s)

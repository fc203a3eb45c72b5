-- Who asks for what, and whether it is refused.
use Rattle.std.specs.Prelude.{◌≡◌, ℕ, Bool, true, false, Option, Some, None}
use Rattle.hg_place.specs.declared.Handle.{Handle}
use Rattle.hg_machine.specs.declared.Event.{Event}
use Rattle.hg_machine.specs.declared.Event.TheVariants as event
use Rattle.hg_machine.specs.declared.Answer.{Answer}
use Rattle.hg_machine.specs.declared.Answer.TheVariants as answer
use Rattle.hg_machine.specs.declared.Rule.{Rule}

-- on whose behalf an event is
abbrev pub actor_of : Event → Option ℕ
actor_of (event.Alloc actor arena bytes) = Some actor.0
actor_of (event.Free actor handle) = Some actor.0
actor_of (event.Read actor handle index) = Some actor.0
actor_of (event.Write actor handle index value) = Some actor.0
actor_of (event.Look actor place) = Some actor.0
actor_of event = None

-- the handle that an event names
abbrev pub handle_of : Event → Option Handle
handle_of (event.Free actor handle) = Some handle
handle_of (event.Read actor handle index) = Some handle
handle_of (event.Write actor handle index value) = Some handle
handle_of event = None

-- some rule denies it
abbrev pub IsDenied : Answer → Type 0
IsDenied a = (rule : Rule) × (a ≡ answer.Denied rule)

-- the answer says that the event was not served
abbrev pub is_refusal : Answer → Bool
is_refusal (answer.Denied rule) = true
is_refusal answer.TooLarge = true
is_refusal answer.NoRoom = true
is_refusal answer.Elsewhere = true
is_refusal answer.OutOfBlock = true
is_refusal answer.Busy = true
is_refusal answer.NothingInHand = true
is_refusal answer.NotHeld = true
is_refusal answer.NoSegment = true
is_refusal a = false

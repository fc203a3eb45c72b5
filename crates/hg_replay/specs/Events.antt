-- What a line means under a policy, where a replay stands.
use Rattle.std.specs.Prelude.{ℕ, List, [], ◌∷◌, Option, Some, None, unwrap_or}
use Rattle.std.specs.Prelude.{slice_index_or}
use Rattle.hg_place.specs.declared.Actor.{Actor}
use Rattle.hg_place.specs.declared.Handle.{Handle}
use Rattle.hg_machine.specs.Policy.{Policy}
use Rattle.hg_machine.specs.State.{State}
use Rattle.hg_machine.specs.declared.Event.{Event}
use Rattle.hg_machine.specs.declared.Event.TheVariants as event
use Rattle.hg_policy.specs.Names.{tenant_number, arena_number}
use Rattle.hg_trace.specs.declared.line.BlockName.{BlockName}
use Rattle.hg_trace.specs.declared.line.BlockName.TheVariants as block_name
use Rattle.hg_trace.specs.declared.line.Command.{Command}
use Rattle.hg_trace.specs.declared.line.Command.TheVariants as command
use Rattle.hg_trace.specs.declared.line.Line.{Line}
use Rattle.hg_trace.specs.Workers.{first_from}
use Rattle.hg_replay.specs.declared.replaying.events.Meaning.{Meaning}
use Rattle.hg_replay.specs.declared.replaying.events.Meaning.TheVariants as meaning
use Rattle.hg_replay.specs.Listings.{looks}

-- a name that the policy lacks is 255: nobody's, and no arena's
abbrev pub or_nobody : Option ℕ → ℕ
or_nobody number = unwrap_or number 255

abbrev pub actor_of : Policy → List ℕ → Actor
actor_of policy name = record { 0 = or_nobody (tenant_number policy name) }

-- the handle of a block, where this is what the allocations of the labels so far were answered: a
-- label stands for the handle of its allocation, and for none where that wasn't served
abbrev pub handle_named : List (Option Handle) → BlockName → Option Handle
handle_named handles (block_name.Handle handle) = Some handle
handle_named handles (block_name.Label label) = slice_index_or handles label None

-- what is asked of a block
abbrev pub of_block : Option Handle → (Handle → Event) → Meaning
of_block (Some handle) asked = meaning.One (asked handle)
of_block None asked = meaning.Unbound

abbrev pub meaning_of : Policy → List (Option Handle) → Command → Meaning
meaning_of policy handles (command.Alloc actor arena bytes label) =
    meaning.One
    (event.Alloc (actor_of policy actor) (or_nobody (arena_number policy arena)) bytes)
meaning_of policy handles (command.Free actor block) =
    of_block (handle_named handles block) (event.Free (actor_of policy actor))
meaning_of policy handles command.Deliver = meaning.One event.Deliver
meaning_of policy handles (command.Take segment) = meaning.One (event.Take segment)
meaning_of policy handles command.Collect = meaning.One event.Collect
meaning_of policy handles (command.Read actor block index) =
    of_block
    (handle_named handles block)
    (λ handle. event.Read (actor_of policy actor) handle index)
meaning_of policy handles (command.Write actor block index value) =
    of_block
    (handle_named handles block)
    (λ handle. event.Write (actor_of policy actor) handle index value)
meaning_of policy handles (command.Look actor place) =
    meaning.One (event.Look (actor_of policy actor) place)
meaning_of policy handles (command.List actor) = meaning.Listing (actor_of policy actor)
meaning_of policy handles (command.Abandon segment) = meaning.One (event.Abandon segment)
meaning_of policy handles (command.Refill arena) =
    meaning.One (event.Refill (or_nobody (arena_number policy arena)))

-- the events that are meant, in a state
abbrev pub events_of : State → ℕ → Meaning → List (ℕ × Event)
events_of s worker (meaning.One event) = (worker, event) ∷ []
events_of s worker (meaning.Listing actor) = looks s worker actor
events_of s worker meaning.Unbound = []

-- the number of the first line whose worker isn't below the count
abbrev pub unknown_worker : ℕ → List Line → Option ℕ
unknown_worker workers lines = first_from workers lines

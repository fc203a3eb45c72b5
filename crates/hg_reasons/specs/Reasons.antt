-- Why an event isn't served, in the policy's words.
use Rattle.std.specs.Prelude.{ℕ, ◌*◌, ◌&&◌, List, length, Option, Some, None, nat_lt}
use Rattle.std.specs.Prelude.{if◌then◌else◌, is_some, count_by, slice_get}
use Rattle.std.specs.List.{range_with_len}
use Rattle.hg_place.specs.declared.Right.TheVariants as right
use Rattle.hg_place.specs.declared.geometry.TheConstants.{WORD_BYTES}
use Rattle.hg_place.specs.Places.{number_of}
use Rattle.hg_machine.specs.Policy.{Policy, arena_of, limit_of}
use Rattle.hg_machine.specs.State.{State, holder_at}
use Rattle.hg_machine.specs.Holders.{holds, is_in_arena}
use Rattle.hg_machine.specs.Charge.{charge}
use Rattle.hg_machine.specs.Request.{size_of}
use Rattle.hg_machine.specs.declared.Event.{Event}
use Rattle.hg_machine.specs.declared.Event.TheVariants as event
use Rattle.hg_machine.specs.declared.Rule.{Rule}
use Rattle.hg_machine.specs.declared.Rule.TheVariants as rule
use Rattle.hg_machine.specs.declared.Answer.{Answer}
use Rattle.hg_machine.specs.declared.Answer.TheVariants as answer
use Rattle.hg_core.specs.Held.{worker_in}
use Rattle.hg_trace.specs.declared.line.BlockName.{BlockName}
use Rattle.hg_trace.specs.declared.line.BlockName.TheVariants as block_name
use Rattle.hg_trace.specs.declared.line.Command.{Command}
use Rattle.hg_trace.specs.declared.line.Command.TheVariants as command
use Rattle.hg_replay.specs.declared.replaying.told.Told.{Told}
use Rattle.hg_replay.specs.declared.replaying.told.Told.TheVariants as told
use Rattle.hg_reasons.specs.declared.past.Bound.{Bound}
use Rattle.hg_reasons.specs.declared.reason.Asked.{Asked}
use Rattle.hg_reasons.specs.declared.reason.Between.{Between}
use Rattle.hg_reasons.specs.declared.reason.Reason.{Reason}
use Rattle.hg_reasons.specs.declared.reason.Reason.TheVariants as reason
use Rattle.hg_reasons.specs.Past.{Past, life_at}

-- who asks for which right on the block of which place, where an event asks for one
abbrev pub asked : Event → Option Asked
asked (event.Free actor handle) =
    Some (record { actor = actor.0; right = right.Free; place = handle.place })
asked (event.Read actor handle index) =
    Some (record { actor = actor.0; right = right.Read; place = handle.place })
asked (event.Write actor handle index value) =
    Some (record { actor = actor.0; right = right.Write; place = handle.place })
asked (event.Look actor place) =
    Some (record { actor = actor.0; right = right.List; place = place })
asked _ = None

-- whom the arena admits, if there is such an arena
abbrev pub arena_reason : Policy → ℕ → Reason
arena_reason policy arena =
    if nat_lt arena (length policy.arenas) then reason.Admits arena else reason.NoArena

-- whom the arena of a segment admits, if there is such a segment
abbrev pub segment_reason : Policy → ℕ → Option ℕ → Reason
segment_reason policy segment None = reason.NoSegment segment
segment_reason policy segment (Some arena) = arena_reason policy arena

-- which generation the place of a segment is in, if there is such a segment
abbrev pub stale_reason : Policy → ℕ → ℕ → Reason
stale_reason policy segment generation =
    if is_some (arena_of policy segment)
    then reason.Generation generation
    else reason.NoSegment segment

-- who holds the segment, if there is such a segment
abbrev pub holder_reason : State → ℕ → Reason
holder_reason s segment =
    if is_some (arena_of s.policy segment)
    then reason.Holder segment (worker_in (holder_at s segment))
    else reason.NoSegment segment

-- the right of the actor on the blocks of whose the place had the last one
abbrev pub between : Past → Asked → Between
between past a = record {
  owner = (life_at past (number_of a.place)).owner;
  actor = a.actor;
  right = a.right;
}

-- why a right on a block is denied
abbrev pub block_reason : Policy → Past → Asked → Rule → Option Reason
block_reason policy past a rule.Stranger = Some reason.NoTenant
block_reason policy past a (rule.Stale generation) =
    Some (stale_reason policy a.place.segment generation)
block_reason policy past a rule.AlreadyFreed =
    Some (reason.Freed (life_at past (number_of a.place)).freed)
block_reason policy past a rule.ForeignArena =
    Some (segment_reason policy a.place.segment (arena_of policy a.place.segment))
block_reason policy past a rule.Forbidden =
    Some (reason.Denies (between past a))
block_reason policy past a rule.NotGranted =
    Some (reason.Lets (between past a))
block_reason policy past a rule.OverLimit = None

-- how many bytes the block for a request has, 0 where no block has as many
abbrev pub block_bytes : ℕ → ℕ
block_bytes bytes = WORD_BYTES * size_of bytes

-- what the tenant has of its limit with the worker, and what it asks for
abbrev pub limit_reason : State → ℕ → ℕ → ℕ → Reason
limit_reason s worker tenant bytes =
    reason.Limit
    (record {
      tenant = tenant;
      charge = charge s worker tenant;
      limit = limit_of s.policy tenant;
      bytes = bytes;
      block = block_bytes bytes;
    })

-- why an allocation is denied
abbrev pub alloc_reason : State → ℕ → ℕ → ℕ → ℕ → Rule → Option Reason
alloc_reason s worker actor arena bytes rule.Stranger = Some reason.NoTenant
alloc_reason s worker actor arena bytes rule.ForeignArena = Some (arena_reason s.policy arena)
alloc_reason s worker actor arena bytes rule.OverLimit = Some (limit_reason s worker actor bytes)
alloc_reason s worker actor arena bytes _ = None

-- why what is asked of a block is denied
abbrev pub asked_reason : Policy → Past → Option Asked → Rule → Option Reason
asked_reason policy past None rule = None
asked_reason policy past (Some a) rule = block_reason policy past a rule

abbrev pub denial_reason : State → Past → ℕ → Event → Rule → Option Reason
denial_reason s past worker (event.Alloc actor arena bytes) rule =
    alloc_reason s worker actor.0 arena bytes rule
denial_reason s past worker event rule = asked_reason s.policy past (asked event) rule

-- how many segments of the arena the worker holds
abbrev pub held_in : State → ℕ → ℕ → ℕ
held_in s worker arena =
    count_by (λ segment. holds s worker segment && is_in_arena s arena segment)
    (range_with_len 0 (length s.policy.segments))

-- what an allocation asked for
abbrev pub large_reason : Event → Option Reason
large_reason (event.Alloc actor arena bytes) = Some (reason.TooLarge bytes)
large_reason _ = None

-- what the worker holds of the arena, and the block for which that has no room
abbrev pub room_reason : State → ℕ → Event → Option Reason
room_reason s worker (event.Alloc actor arena bytes) =
    Some
    (reason.NoRoom
    (record { arena = arena; segments = held_in s worker arena; block = block_bytes bytes }))
room_reason s worker _ = None

-- who holds the segment of the block
abbrev pub elsewhere_reason : State → Option Asked → Option Reason
elsewhere_reason s None = None
elsewhere_reason s (Some a) = Some (holder_reason s a.place.segment)

-- which word the block lacks
abbrev pub range_reason : Event → Option Reason
range_reason (event.Read actor handle index) = Some (reason.NoWord index)
range_reason (event.Write actor handle index value) = Some (reason.NoWord index)
range_reason _ = None

-- who holds the segment that the worker would take from or give up
abbrev pub held_reason : State → Event → Option Reason
held_reason s (event.Take segment) = Some (holder_reason s segment)
held_reason s (event.Abandon segment) = Some (holder_reason s segment)
held_reason s _ = None

-- an arena of which no segment is left, if there is such an arena
abbrev pub left_reason : Policy → Event → Option Reason
left_reason policy (event.Refill arena) =
    Some (if nat_lt arena (length policy.arenas) then reason.NoneLeft arena else reason.NoArena)
left_reason policy _ = None

-- why the worker's event was answered so, if that served nothing
abbrev pub event_reason : State → Past → ℕ → Event → Answer → Option Reason
event_reason s past worker event (answer.Denied rule) = denial_reason s past worker event rule
event_reason s past worker event answer.TooLarge = large_reason event
event_reason s past worker event answer.NoRoom = room_reason s worker event
event_reason s past worker event answer.Elsewhere = elsewhere_reason s (asked event)
event_reason s past worker event answer.OutOfBlock = range_reason event
event_reason s past worker event answer.Busy = Some reason.InHand
event_reason s past worker event answer.NothingInHand = Some reason.EmptyHand
event_reason s past worker event answer.NotHeld = held_reason s event
event_reason s past worker event answer.NoSegment = left_reason s.policy event
event_reason s past worker event _ = None

-- the line of a label, and what its allocation was answered
abbrev pub unserved : Option Bound → Option Reason
unserved None = None
unserved (Some bound) = Some (reason.Unserved bound)

-- the label of a block that isn't bound
abbrev pub label_reason : Past → BlockName → Option Reason
label_reason past (block_name.Handle handle) = None
label_reason past (block_name.Label label) = unserved (slice_get past.labels label)

abbrev pub unbound_reason : Past → Command → Option Reason
unbound_reason past (command.Free actor block) = label_reason past block
unbound_reason past (command.Read actor block index) = label_reason past block
unbound_reason past (command.Write actor block index value) = label_reason past block
unbound_reason past _ = None

-- why a line came to this, if that is no service
abbrev pub reason_of : State → Past → ℕ → Command → Told → Option Reason
reason_of s past worker command (told.One event answer) = event_reason s past worker event answer
reason_of s past worker command told.Listing = None
reason_of s past worker command told.Unbound = unbound_reason past command

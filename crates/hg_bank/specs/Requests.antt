-- What a bank is asked, and which core serves it.
use Rattle.std.specs.Prelude.{ℕ, ◌&&◌, List, Bool, true, false, length, nat_lt, is_some, Option}
use Rattle.std.specs.Prelude.{Some}
use Rattle.std.specs.Prelude.{None, find, slice_get, if◌then◌else◌}
use Rattle.hg_place.specs.declared.Actor.{Actor}
use Rattle.hg_machine.specs.declared.AllocVerdict.{AllocVerdict}
use Rattle.hg_machine.specs.declared.AllocVerdict.TheVariants as verdict
use Rattle.hg_machine.specs.declared.Answer.{Answer}
use Rattle.hg_machine.specs.declared.Answer.TheVariants as answer
use Rattle.hg_machine.specs.declared.Event.{Event}
use Rattle.hg_machine.specs.declared.Event.TheVariants as event
use Rattle.hg_machine.specs.declared.Rule.TheVariants as rule
use Rattle.hg_machine.specs.Holders.{next_of}
use Rattle.hg_machine.specs.Lists.{Kept}
use Rattle.hg_machine.specs.Policy.{Policy, is_tenant}
use Rattle.hg_machine.specs.Request.{alloc_verdict, words_for}
use Rattle.hg_machine.specs.Room.{has_room}
use Rattle.hg_bank.specs.Order.{round_from}
use Rattle.hg_bank.specs.State.{BankState, current_of, charge_over}

-- a block, a segment for an arena, or an event that names its core
pub data Request : Type 0 where
  alloc : Actor → ℕ → ℕ → Request
  refill : ℕ → Request
  named : ℕ → Event → Request

-- the event that the core which serves it is asked
abbrev pub event_of : Request → Event
event_of (alloc actor arena bytes) = event.Alloc actor arena bytes
event_of (refill arena) = event.Refill arena
event_of (named core event) = event

-- an Alloc and a Refill name no core: the bank chooses it
abbrev pub names_core : Event → Bool
names_core (event.Alloc actor arena bytes) = false
names_core (event.Refill arena) = false
names_core event = true

-- the verdict on an allocation, by what counts over all cores
abbrev pub bank_verdict : BankState → ℕ → Actor → ℕ → ℕ → AllocVerdict
bank_verdict b worker actor arena bytes =
    alloc_verdict b.policy actor.0 arena (words_for bytes)
    (charge_over b.cores worker actor.0)

-- the cores in the order in which they are asked
abbrev pub asked : BankState → ℕ → ℕ → List ℕ
asked b worker arena = round_from (current_of b.currents worker arena) (length b.cores)

-- there is such a core, and it passes
abbrev pub passes : (Kept → Bool) → Option Kept → Bool
passes test None = false
passes test (Some k) = test k

-- the core has room for a block of this size
abbrev pub has_room_in : List Kept → ℕ → ℕ → ℕ → ℕ → Bool
has_room_in cores worker arena size core =
    passes (λ k. has_room k.state worker arena size) (slice_get cores core)

-- the core has a segment of the arena to take: an orphan or a fresh one
abbrev pub has_segment_in : List Kept → ℕ → ℕ → Bool
has_segment_in cores arena core =
    passes (λ k. is_some (next_of k.state arena)) (slice_get cores core)

-- the core with room for a block that the verdict allows: the first that is asked
abbrev pub core_with_room : BankState → ℕ → ℕ → AllocVerdict → Option ℕ
core_with_room b worker arena (verdict.Fits size) =
    find (has_room_in b.cores worker arena size) (asked b worker arena)
core_with_room b worker arena other = None

-- the core that serves a request, if one does
abbrev pub server : BankState → ℕ → Request → Option ℕ
server b worker (alloc actor arena bytes) =
    core_with_room b worker arena (bank_verdict b worker actor arena bytes)
server b worker (refill arena) =
    find (has_segment_in b.cores arena) (asked b worker arena)
server b worker (named core event) =
    if names_core event && nat_lt core (length b.cores) then Some core else None

-- why an allocation has no block
abbrev pub alloc_refused : AllocVerdict → Answer
alloc_refused (verdict.Denied rule) = answer.Denied rule
alloc_refused verdict.TooLarge = answer.TooLarge
alloc_refused (verdict.Fits size) = answer.NoRoom

-- a block of a core that isn't there is denied as one of a segment that isn't
abbrev pub missing : Policy → ℕ → Answer
missing policy actor =
    if is_tenant policy actor
    then answer.Denied (rule.Stale 0)
    else answer.Denied rule.Stranger

-- what an event is answered that names a core that isn't there
abbrev pub absent : Policy → Event → Answer
absent policy (event.Alloc actor arena bytes) = answer.NoRoom
absent policy (event.Free actor handle) = missing policy actor.0
absent policy event.Deliver = answer.NothingInHand
absent policy (event.Take segment) = answer.NotHeld
absent policy event.Collect = answer.Pages 0
absent policy (event.Read actor handle index) = missing policy actor.0
absent policy (event.Write actor handle index value) = missing policy actor.0
absent policy (event.Look actor place) = missing policy actor.0
absent policy (event.Abandon segment) = answer.NotHeld
absent policy (event.Refill arena) = answer.NoSegment

-- what a request is answered that no core serves
abbrev pub unserved : BankState → ℕ → Request → Answer
unserved b worker (alloc actor arena bytes) =
    alloc_refused (bank_verdict b worker actor arena bytes)
unserved b worker (refill arena) = answer.NoSegment
unserved b worker (named core event) = absent b.policy event

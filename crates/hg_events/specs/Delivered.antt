-- A Deliver: a place goes from a worker's hand to the remote list of its segment.
use Rattle.std.specs.Prelude.{◌≡◌, ℕ, ◌<◌, [], length, Contains, Some, None, slice_index_or}
use Rattle.std.specs.Prelude.{slice_set}
use Rattle.hg_place.specs.declared.Place.{Place}
use Rattle.hg_place.specs.Places.{number_of}
use Rattle.hg_lists.specs.Inserts.{Inserts}
use Rattle.hg_remote.specs.Remote.{Remote, IsRight, contents, slot}
use Rattle.hg_machine.specs.declared.Event.TheVariants as event
use Rattle.hg_machine.specs.declared.Answer.TheVariants as answer
use Rattle.hg_machine.specs.Steps.{Step}
use Rattle.hg_agreement.specs.Parts.{state_of}
use Rattle.hg_parts.specs.Tidy.{IsTidy}
use Rattle.hg_events.specs.Core.{Core, parts_of}

abbrev pub nothing_there : Remote
nothing_there = record { delayed = []; thread_free = [] }

-- the remote list of a segment
abbrev pub remote_of : Core → ℕ → Remote
remote_of core segment = slice_index_or core.remotes segment nothing_there

-- the worker has this place in hand
abbrev pub IsInHand : Core → ℕ → Place → Type 0
IsInHand core worker place = slice_index_or core.hands worker None ≡ Some (number_of place)

-- the core with nothing in the worker's hand, and another remote list of the place's segment
abbrev pub delivered : Core → ℕ → Place → Remote → Core
delivered core worker place remote = record core {
  remotes = slice_set core.remotes place.segment remote;
  hands = slice_set core.hands worker None;
}

-- its segment has a remote list, and that one doesn't have the place: it takes it
pub record IsUnsent (core : Core) (place : Place) : Type 0 where
  pub inside : place.segment < length core.remotes
  pub unsent : ¬ Contains (contents (remote_of core place.segment)) (slot place.page place.index)

abbrev pub HandIsUnsent : Type 0
HandIsUnsent =
    (core : Core) (worker : ℕ) (place : Place) → IsTidy (parts_of core)
    → IsInHand core worker place → IsUnsent core place

-- once the remote list has the place more, and the hand is empty, that was a Deliver
abbrev pub DeliverIsServed : Type 0
DeliverIsServed =
    (core : Core) (worker : ℕ) (place : Place) (remote : Remote) → IsTidy (parts_of core)
    → IsInHand core worker place
    → Inserts (slot place.page place.index) (contents (remote_of core place.segment))
    (contents remote)
    → IsRight remote
    → Step (state_of (parts_of core)) worker event.Deliver answer.Done
    (state_of (parts_of (delivered core worker place remote)))
    × IsTidy (parts_of (delivered core worker place remote))

-- and where the hand is empty before, it is refused
abbrev pub DeliverIsRefused : Type 0
DeliverIsRefused =
    (core : Core) (worker : ℕ) → slice_index_or core.hands worker None ≡ None
    → Step (state_of (parts_of core)) worker event.Deliver answer.NothingInHand
    (state_of (parts_of core))

-- A Deliver: the place stands where the remote list of its segment puts it.
use Rattle.std.specs.Prelude.{◌≡◌, ℕ}
use Rattle.hg_lists.specs.Inserts.{Inserts}
use Rattle.hg_place.specs.declared.Place.{Place}
use Rattle.hg_remote.specs.Remote.{Remote, IsRight, contents, slot}
use Rattle.hg_remote.specs.Sends.{sent as with_sent}
use Rattle.hg_machine.specs.declared.Event.TheVariants as event
use Rattle.hg_machine.specs.declared.Answer.TheVariants as answer
use Rattle.hg_parts.specs.Tidy.{IsTidy}
use Rattle.hg_events.specs.Core.{Core, parts_of}
use Rattle.hg_events.specs.Delivered.{IsInHand, delivered, remote_of}
use Rattle.hg_chosen.specs.Chosen.{IsChosenBy}

-- what `RemoteList::push` left of the remote list of the place's segment, by its clauses
pub record IsSent (core : Core) (place : Place) (remote : Remote) : Type 0 where
  pub sent : remote ≡ with_sent (remote_of core place.segment) place.page place.index
  pub added :
      Inserts (slot place.page place.index) (contents (remote_of core place.segment))
      (contents remote)
  pub right : IsRight remote

-- once the remote list has the place of the worker's hand, and the hand is empty, that was a
-- Deliver with its choices
abbrev pub DeliverIsChosen : Type 0
DeliverIsChosen =
    (core : Core) (worker : ℕ) (place : Place) (remote : Remote) → IsTidy (parts_of core)
    → IsInHand core worker place → IsSent core place remote
    → IsChosenBy core worker event.Deliver answer.Done (delivered core worker place remote)

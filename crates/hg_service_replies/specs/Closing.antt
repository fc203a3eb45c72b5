-- How a service becomes a core.
use Rattle.std.specs.Prelude.{◌≡◌, ℕ, Bool, true, false, List, length, slice_get}
use Rattle.std.specs.Prelude.{Option, None, Some, MatchOption, Result, MatchResult}
use Rattle.std.specs.List.{list_all}
use Rattle.hg_audit.specs.declared.parts.Parts.{Parts}
use Rattle.hg_place.specs.declared.Place.{Place}
use Rattle.hg_place.specs.Places.{number_of}
use Rattle.hg_hosted.specs.Closing as hosted
use Rattle.hg_hosted.specs.Departing.{IsBack, IsGone}
use Rattle.hg_hosted.specs.Has.{Has}
use Rattle.hg_hosted.specs.Leaving.{IsIdle}
use Rattle.hg_hosted.specs.declared.worker.HostedWorker.{HostedWorker}
use Rattle.hg_machine.specs.Lists.{Kept}
use Rattle.hg_machine.specs.Policy.{Policy}
use Rattle.hg_close.specs.Closed.{AreLost, IsQuiet}
use Rattle.hg_close.specs.declared.fault.CloseFault.{CloseFault}
use Rattle.hg_close.specs.declared.fault.CloseFault.TheVariants as fault
use Rattle.hg_reply.specs.declared.reply.Reply.{Reply}
use Rattle.hg_reply.specs.Replies.{again, no_memory, valued}
use Rattle.hg_service_replies.specs.declared.part.HostedPart.{HostedPart}
use Rattle.hg_service_replies.specs.declared.part.HostedPart.TheVariants as part
use Rattle.hg_service_replies.specs.declared.part.OpenService.{OpenService}
use Rattle.hg_service_replies.specs.declared.part.Ungiven.{Ungiven}
use Rattle.hg_service_replies.specs.declared.part.Ungiven.TheVariants as ungiven
use Rattle.hg_service_replies.specs.Serving.{IsOther}

-- why it doesn't close: the fault, or that another call has what a worker puts back
abbrev pub told_fault : CloseFault → Reply
told_fault fault.Memory = no_memory
told_fault (fault.StillOut worker) = valued 26 worker
told_fault (fault.StillHeld segment) = valued 27 segment

abbrev pub told_why : Option CloseFault → Reply
told_why None = again
told_why (Some fault) = told_fault fault

-- a worker that stands ready leaves, by this receipt, or stays in its state, with ways to the same
-- places
abbrev pub ReadyLeaves : HostedWorker → Option Ungiven → Type 0
ReadyLeaves worker None = ⊥
ReadyLeaves worker (Some (ungiven.Ready back)) = IsBack worker back
ReadyLeaves worker (Some (ungiven.Gone gone)) = Has IsIdle worker × IsGone worker gone

-- and where none does, there is what there was
abbrev pub PlaceLeaves : Option Ungiven → Option Ungiven → Type 0
PlaceLeaves None new = new ≡ None
PlaceLeaves (Some (ungiven.Ready worker)) new = ReadyLeaves worker new
PlaceLeaves (Some (ungiven.Gone gone)) new = new ≡ Some (ungiven.Gone gone)

-- no worker stands ready there: it was given to a thread, or it has left
abbrev pub is_over : Option Ungiven → Bool
is_over None = true
is_over (Some (ungiven.Ready worker)) = false
is_over (Some (ungiven.Gone gone)) = true

-- each of them does so
pub record AreLetLeave (old new : List (Option Ungiven)) : Type 0 where
  pub all : length new ≡ length old
  pub each :
      (number : ℕ) (was is : Option Ungiven) → slice_get old number ≡ Some was
      → slice_get new number ≡ Some is → PlaceLeaves was is

-- a worker that no thread has doesn't leave, and the service wasn't asked; or it goes on for a reason
-- of its own
pub record GoesOn (old : OpenService) (reply : Reply) (new : OpenService) : Type 0 where
  pub workers : AreLetLeave old.workers.items new.workers.items
  pub why : Option CloseFault
  pub told : reply ≡ told_why why
  pub still :
      MatchOption why
      ((new.service ≡ old.service) × (list_all is_over new.workers.items ≡ false))
      (λ fault. hosted.GoesOn old.service fault new.service
      × (list_all is_over new.workers.items ≡ true))

-- a place of parts of its policy is lost
abbrev pub IsLost : Policy → Reply → Type 0
IsLost policy reply =
    (place : Place) × (parts : Parts) × AreLost policy place parts
    × (reply ≡ valued 28 (number_of place))

-- what is left of it: it goes on, or it is lost with a place and nothing is left
abbrev pub IsUnclosed : OpenService → HostedPart → Reply → Type 0
IsUnclosed old (part.Service new) reply = GoesOn old reply new
IsUnclosed old part.Gone reply = IsLost old.service.policy reply
IsUnclosed old (part.Worker worker) reply = ⊥
IsUnclosed old (part.Core core) reply = ⊥
IsUnclosed old (part.Left gone) reply = ⊥

-- A service becomes a core in which nobody holds a segment and each hand is empty, and is gone; or
-- it goes on, or is lost. A core that waits is handed out. Any other part is answered as closed, and
-- stays
abbrev pub PartCloses : HostedPart → Result Kept Reply → HostedPart → Type 0
PartCloses (part.Service old) result new =
    MatchResult result (λ core. (new ≡ part.Gone) × IsQuiet old.service.policy core)
    (λ reply. IsUnclosed old new reply)
PartCloses (part.Core old) result new =
    MatchResult result (λ core. (new ≡ part.Gone) × (core ≡ old)) (λ reply. ⊥)
PartCloses (part.Worker old) result new =
    MatchResult result (λ core. ⊥) (λ reply. IsOther (part.Worker old) reply new)
PartCloses (part.Left gone) result new =
    MatchResult result (λ core. ⊥) (λ reply. IsOther (part.Left gone) reply new)
PartCloses part.Gone result new =
    MatchResult result (λ core. ⊥) (λ reply. IsOther part.Gone reply new)

-- How a bank of services becomes a bank.
use Rattle.std.specs.Prelude.{◌≡◌, ℕ, Bool, true, false, List, [], length, slice_get}
use Rattle.std.specs.Prelude.{Option, None, Some, MatchOption, Result, MatchResult}
use Rattle.std.specs.List.{list_all}
use Rattle.hg_place.specs.Places.{number_of}
use Rattle.hg_bank.specs.Sound.{IsSoundBank}
use Rattle.hg_bank.specs.State.{BankState}
use Rattle.hg_close.specs.declared.fault.CloseFault.{CloseFault}
use Rattle.hg_close.specs.declared.fault.CloseFault.TheVariants as fault
use Rattle.hg_reply.specs.declared.reply.Reply.{Reply}
use Rattle.hg_reply.specs.Replies.{again, no_memory}
use Rattle.hg_bank_replies.specs.Replies.{placed}
use Rattle.hg_bank_service.specs.Closing.{IsClosedBank, KeepsAllClosed, LosesOne, StopsAt}
use Rattle.hg_bank_service.specs.Idle.{AreIdleFrom}
use Rattle.hg_bank_service.specs.Leaving.{AreLeft, GoesOnLeaving, IsFirstBusy}
use Rattle.hg_bank_service.specs.declared.closing.LostCore.{LostCore}
use Rattle.hg_bank_service.specs.State.{ServicesState}
use Rattle.hg_bank_service.specs.declared.unleft.Leaving.{Leaving}
use Rattle.hg_bank_service.specs.declared.worker.BankWorker.{BankWorker}
use Rattle.hg_bank_service_replies.specs.declared.part.BankPart.{BankPart}
use Rattle.hg_bank_service_replies.specs.declared.part.BankPart.TheVariants as part
use Rattle.hg_bank_service_replies.specs.declared.part.OpenBank.{OpenBank}
use Rattle.hg_bank_service_replies.specs.declared.part.Ungiven.{Ungiven}
use Rattle.hg_bank_service_replies.specs.declared.part.Ungiven.TheVariants as ungiven
use Rattle.hg_bank_service_replies.specs.Serving.{IsOther}

-- why the service of a core doesn't close
abbrev pub told_fault : ℕ → CloseFault → Reply
told_fault core fault.Memory = no_memory
told_fault core (fault.StillOut worker) = placed 26 core worker
told_fault core (fault.StillHeld segment) = placed 27 core segment

-- what stops a closing: a core for this reason, or that there is no memory for what a bank keeps of
-- its cores, which are all closed
abbrev pub told_stop : Option (ℕ × CloseFault) → Reply
told_stop None = no_memory
told_stop (Some stop) = told_fault stop.0 stop.1

abbrev pub Stops : ServicesState → ServicesState → Option (ℕ × CloseFault) → Type 0
Stops old new None = KeepsAllClosed old new
Stops old new (Some stop) = StopsAt old new stop.0 stop.1

-- and before, that a worker that no thread has didn't leave
abbrev pub told_why : Option (Option (ℕ × CloseFault)) → Reply
told_why None = again
told_why (Some stop) = told_stop stop

-- a worker that stands ready leaves, by a receipt of each core, or stays as it was for a core where it
-- is busy, or is leaving
abbrev pub ReadyLeaves : BankWorker → Option Ungiven → Type 0
ReadyLeaves worker None = ⊥
ReadyLeaves worker (Some (ungiven.Gone gone)) =
    AreIdleFrom 0 worker.workers.items × AreLeft worker.workers.items [] [] gone.items
ReadyLeaves worker (Some (ungiven.Ready back)) =
    (core : ℕ) × IsFirstBusy worker.workers.items core × (back ≡ worker)
ReadyLeaves worker (Some (ungiven.Leaving left)) =
    AreIdleFrom 0 worker.workers.items × GoesOnLeaving worker.workers.items [] left

-- one that is leaving goes on
abbrev pub LeavingLeaves : Leaving → Option Ungiven → Type 0
LeavingLeaves old None = ⊥
LeavingLeaves old (Some (ungiven.Ready worker)) = ⊥
LeavingLeaves old (Some (ungiven.Leaving left)) =
    GoesOnLeaving old.workers.items old.gone.items left
LeavingLeaves old (Some (ungiven.Gone gone)) =
    AreLeft old.workers.items old.gone.items [] gone.items

-- and where there is none, or it has left, there is what there was
abbrev pub PlaceLeaves : Option Ungiven → Option Ungiven → Type 0
PlaceLeaves None new = new ≡ None
PlaceLeaves (Some (ungiven.Ready worker)) new = ReadyLeaves worker new
PlaceLeaves (Some (ungiven.Leaving left)) new = LeavingLeaves left new
PlaceLeaves (Some (ungiven.Gone gone)) new = new ≡ Some (ungiven.Gone gone)

-- no worker stands there that is still to leave: it was given to a thread, or it has left
abbrev pub is_over : Option Ungiven → Bool
is_over None = true
is_over (Some (ungiven.Ready worker)) = false
is_over (Some (ungiven.Leaving left)) = false
is_over (Some (ungiven.Gone gone)) = true

-- each of them does so
pub record AreLetLeave (old new : List (Option Ungiven)) : Type 0 where
  pub all : length new ≡ length old
  pub each :
      (number : ℕ) (was is : Option Ungiven) → slice_get old number ≡ Some was
      → slice_get new number ≡ Some is → PlaceLeaves was is

-- a worker that no thread has doesn't leave, and no service was asked; or something stops the closing
pub record GoesOn (old : OpenBank) (reply : Reply) (new : OpenBank) : Type 0 where
  pub workers : AreLetLeave old.workers.items new.workers.items
  pub why : Option (Option (ℕ × CloseFault))
  pub told : reply ≡ told_why why
  pub still :
      MatchOption why
      ((new.service ≡ old.service) × (list_all is_over new.workers.items ≡ false))
      (λ stop. Stops old.service new.service stop × (list_all is_over new.workers.items ≡ true))

-- a place of parts of a core is lost
abbrev pub IsLost : ServicesState → Reply → Type 0
IsLost old reply =
    (left : LostCore) × LosesOne old left × (reply ≡ placed 28 left.core (number_of left.place))

-- what is left of it: it goes on, or a core is lost and nothing is left
abbrev pub IsUnclosed : OpenBank → BankPart → Reply → Type 0
IsUnclosed old (part.Service new) reply = GoesOn old reply new
IsUnclosed old part.Gone reply = IsLost old.service reply
IsUnclosed old (part.Worker worker) reply = ⊥
IsUnclosed old (part.Leaving left) reply = ⊥
IsUnclosed old (part.Bank bank) reply = ⊥
IsUnclosed old (part.Left gone) reply = ⊥

-- all services have closed, and the bank is made of their cores, by number, and is sound
abbrev pub IsMadeBank : ServicesState → BankState → Type 0
IsMadeBank service bank = IsClosedBank service bank × IsSoundBank bank

-- A bank of services becomes a bank in which nobody holds a segment and each hand is empty, and is
-- gone; or it goes on, or is lost. A bank that waits is handed out. Any other part is answered as
-- closed, and stays
abbrev pub PartCloses : BankPart → Result BankState Reply → BankPart → Type 0
PartCloses (part.Service old) result new =
    MatchResult result (λ bank. (new ≡ part.Gone) × IsMadeBank old.service bank)
    (λ reply. IsUnclosed old new reply)
PartCloses (part.Bank old) result new =
    MatchResult result (λ bank. (new ≡ part.Gone) × (bank ≡ old)) (λ reply. ⊥)
PartCloses (part.Worker worker) result new =
    MatchResult result (λ bank. ⊥) (λ reply. IsOther (part.Worker worker) reply new)
PartCloses (part.Leaving left) result new =
    MatchResult result (λ bank. ⊥) (λ reply. IsOther (part.Leaving left) reply new)
PartCloses (part.Left gone) result new =
    MatchResult result (λ bank. ⊥) (λ reply. IsOther (part.Left gone) reply new)
PartCloses part.Gone result new =
    MatchResult result (λ bank. ⊥) (λ reply. IsOther part.Gone reply new)

-- What a part of a bank of services answers an event.
use Rattle.std.specs.Prelude.{◌≡◌, ℕ, Option, None, Some, Result}
use Rattle.hg_core.specs.declared.refusals.NoSegment.{NoSegment}
use Rattle.hg_heap.specs.declared.refused.Refused.{Refused}
use Rattle.hg_machine.specs.declared.Answer.{Answer}
use Rattle.hg_machine.specs.declared.Event.{Event}
use Rattle.hg_machine.specs.declared.Event.TheVariants as event
use Rattle.hg_place.specs.declared.Actor.{Actor}
use Rattle.hg_bank.specs.declared.bank.BankHandle.{BankHandle}
use Rattle.hg_bank.specs.declared.bank.BankSegment.{BankSegment}
use Rattle.hg_bank_replies.specs.Replies.{alloc_reply, refill_reply}
use Rattle.hg_bank_service.specs.Allocating.{AllocatesBy, sum_verdict}
use Rattle.hg_bank_service.specs.Named.{ServesIn}
use Rattle.hg_bank_service.specs.Refilling.{RefillsBy}
use Rattle.hg_bank_service.specs.declared.worker.BankWorker.{BankWorker}
use Rattle.hg_reply.specs.declared.reply.Reply.{Reply}
use Rattle.hg_reply.specs.Replies.{again, closed}
use Rattle.hg_service_replies.specs.Serving.{told}
use Rattle.hg_bank_service_replies.specs.declared.part.BankPart.{BankPart}
use Rattle.hg_bank_service_replies.specs.declared.part.BankPart.TheVariants as part

-- what came of a refill, where each core up to the one that serves could be asked
abbrev pub refill_told : Option (Result BankSegment NoSegment) → Reply
refill_told None = again
refill_told (Some result) = refill_reply result

-- the first core with a place gives a block, and the reply has the core's number; or it is refused
pub record WorkerAllocates (old : BankWorker) (actor : Actor) (arena bytes : ℕ) (reply : Reply)
    (new : BankWorker) : Type 0 where
  pub result : Result BankHandle Refused
  pub told : reply ≡ alloc_reply result
  pub does : AllocatesBy (sum_verdict old actor arena bytes) actor arena bytes result old new

-- the first core with a segment gives it, and the reply has the core's number; or none has one; or
-- another call has the segments of a core whose turn it is
pub record WorkerRefills (old : BankWorker) (arena : ℕ) (reply : Reply) (new : BankWorker)
    : Type 0 where
  pub result : Option (Result BankSegment NoSegment)
  pub told : reply ≡ refill_told result
  pub does : RefillsBy arena result old new

-- the core that is named serves, and the reply stands for its answer; or another call has what the
-- event needs there, and nothing is done
pub record ServesNamed (old : BankWorker) (core : ℕ) (event : Event) (reply : Reply)
    (new : BankWorker) : Type 0 where
  pub answer : Option Answer
  pub told : reply ≡ told answer
  pub does : ServesIn core event answer old new

-- a bank worker serves the event by the call of its name
abbrev pub WorkerServes : BankWorker → ℕ → Event → Reply → BankWorker → Type 0
WorkerServes old core (event.Alloc actor arena bytes) reply new =
    WorkerAllocates old actor arena bytes reply new
WorkerServes old core (event.Refill arena) reply new = WorkerRefills old arena reply new
WorkerServes old core (event.Free actor handle) reply new =
    ServesNamed old core (event.Free actor handle) reply new
WorkerServes old core event.Deliver reply new = ServesNamed old core event.Deliver reply new
WorkerServes old core (event.Take segment) reply new =
    ServesNamed old core (event.Take segment) reply new
WorkerServes old core event.Collect reply new = ServesNamed old core event.Collect reply new
WorkerServes old core (event.Read actor handle index) reply new =
    ServesNamed old core (event.Read actor handle index) reply new
WorkerServes old core (event.Write actor handle index value) reply new =
    ServesNamed old core (event.Write actor handle index value) reply new
WorkerServes old core (event.Look actor place) reply new =
    ServesNamed old core (event.Look actor place) reply new
WorkerServes old core (event.Abandon segment) reply new =
    ServesNamed old core (event.Abandon segment) reply new

-- it isn't what was asked for, and stays
pub record IsOther (old : BankPart) (reply : Reply) (new : BankPart) : Type 0 where
  pub reply_is : reply ≡ closed
  pub same : new ≡ old

-- a worker serves, and stays a worker; any other part is answered so
abbrev pub PartServes : BankPart → ℕ → Event → Reply → BankPart → Type 0
PartServes (part.Worker old) core event reply new =
    (left : BankWorker) × (new ≡ part.Worker left) × WorkerServes old core event reply left
PartServes (part.Leaving left) core event reply new = IsOther (part.Leaving left) reply new
PartServes (part.Service opened) core event reply new = IsOther (part.Service opened) reply new
PartServes (part.Bank bank) core event reply new = IsOther (part.Bank bank) reply new
PartServes (part.Left gone) core event reply new = IsOther (part.Left gone) reply new
PartServes part.Gone core event reply new = IsOther part.Gone reply new

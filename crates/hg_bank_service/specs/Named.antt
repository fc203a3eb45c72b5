-- A call that names its core.
use Rattle.std.specs.Prelude.{◌≡◌, ℕ, Bool, true, false, Option, Some, MatchOption}
use Rattle.std.specs.Prelude.{slice_get, slice_set}
use Rattle.hg_machine.specs.declared.Answer.{Answer}
use Rattle.hg_machine.specs.declared.Event.{Event}
use Rattle.hg_machine.specs.declared.Event.TheVariants as event
use Rattle.hg_bank.specs.Requests.{absent}
use Rattle.hg_hosted.specs.declared.worker.HostedWorker.{HostedWorker}
use Rattle.hg_hosted.specs.Reaching.{Reaches}
use Rattle.hg_hosted.specs.Serving.{Serves}
use Rattle.hg_hosted.specs.Steps.{Does}
use Rattle.hg_hosted.specs.Waiting.{Waits}
use Rattle.hg_bank_service.specs.declared.worker.BankWorker.{BankWorker}

-- an event that leaves all charges as they are
abbrev pub keeps_charges : Event → Bool
keeps_charges event.Deliver = true
keeps_charges (event.Read actor handle index) = true
keeps_charges (event.Write actor handle index value) = true
keeps_charges (event.Look actor place) = true
keeps_charges (event.Alloc actor arena bytes) = false
keeps_charges (event.Free actor handle) = false
keeps_charges (event.Take segment) = false
keeps_charges event.Collect = false
keeps_charges (event.Abandon segment) = false
keeps_charges (event.Refill arena) = false

-- policy, number and current cores are as they were
pub record KeepsRest (old new : BankWorker) : Type 0 where
  pub policy : new.policy ≡ old.policy
  pub number : new.number ≡ old.number
  pub currents : new.currents ≡ old.currents

-- the worker of one core does what the event asks, or finds that another call has what it needs; and
-- each other is as it was
pub record ServesThere (core : ℕ) (event : Event) (result : Option Answer) (old new : BankWorker)
    (was : HostedWorker) : Type 0 where
  pub next : HostedWorker
  pub after : new.workers.items ≡ slice_set old.workers.items core next
  pub served :
      MatchOption result (Serves (Waits event) was next)
      (λ answer. Serves (Does event answer) was next)
  pub reach : Reaches event was next
  pub rest : KeepsRest old new

-- the core isn't there, and nothing changes
pub record IsAbsent (event : Event) (result : Option Answer) (old new : BankWorker) : Type 0 where
  pub told : result ≡ Some (absent old.policy event)
  pub same : new ≡ old

-- the core that is named serves, if it is there
abbrev pub ServesIn : ℕ → Event → Option Answer → BankWorker → BankWorker → Type 0
ServesIn core event result old new =
    MatchOption (slice_get old.workers.items core) (IsAbsent event result old new)
    (ServesThere core event result old new)

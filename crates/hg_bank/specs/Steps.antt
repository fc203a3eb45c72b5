-- The steps of a bank.
use Rattle.std.specs.Prelude.{◌≡◌, ℕ, MatchOption, Some, slice_get}
use Rattle.hg_machine.specs.declared.Answer.{Answer}
use Rattle.hg_machine.specs.Lists.{Kept}
use Rattle.hg_bank.specs.Requests.{Request, alloc, refill, named, event_of, server, unserved}
use Rattle.hg_bank.specs.State.{BankState, with_core, with_current}
use Rattle.hg_choice.specs.ChosenSteps.{ChosenStep}

-- a core that gave a block or a segment is current from then on
abbrev pub moved : Request → ℕ → ℕ → BankState → BankState
moved (alloc actor arena bytes) worker core b = with_current b worker arena core
moved (refill arena) worker core b = with_current b worker arena core
moved (named other event) worker core b = b

-- the core makes the step of the core's machine, and each other core stays as it was
pub record IsServedBy (old : BankState) (worker : ℕ) (request : Request) (answer : Answer)
    (new : BankState) (core : ℕ) : Type 0 where
  pub was : Kept
  pub next : Kept
  pub there : slice_get old.cores core ≡ Some was
  pub step : ChosenStep was worker (event_of request) answer next
  pub after : new ≡ moved request worker core (with_core old core next)

-- from old, the worker's request is answered so, and leaves new: by the core that serves it, and
-- where none does nothing changes
abbrev pub BankStep : BankState → ℕ → Request → Answer → BankState → Type 0
BankStep old worker request answer new =
    MatchOption (server old worker request)
    ((answer ≡ unserved old worker request) × (new ≡ old))
    (IsServedBy old worker request answer new)

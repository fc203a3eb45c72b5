-- How far what counts over all cores rises.
use Rattle.std.specs.Prelude.{◌≡◌, ◌⊎◌, ℕ, ◌<◌, ◌≤◌, List, [], ◌∷◌, Some}
use Rattle.hg_machine.specs.declared.Answer.{Answer}
use Rattle.hg_machine.specs.declared.Answer.TheVariants as answer
use Rattle.hg_machine.specs.Policy.{Policy, limit_of}
use Rattle.hg_machine.specs.State.{orphan, holder_at}
use Rattle.hg_bank.specs.Histories.{Entry, grew, answered, IsSinceOpening}
use Rattle.hg_bank.specs.Opening.{core_at, opened_bank, grown}
use Rattle.hg_bank.specs.Requests.{Request, refill, server}
use Rattle.hg_bank.specs.State.{BankState, charge_over}
use Rattle.hg_bank.specs.Steps.{BankStep}

-- the worker's refill is served by a core with an orphan, whose blocks count with the worker then
pub record Adopts (old : BankState) (worker : ℕ) (request : Request) (told : Answer) : Type 0 where
  pub arena : ℕ
  pub core : ℕ
  pub segment : ℕ
  pub asks : request ≡ refill arena
  pub serves : server old worker request ≡ Some core
  pub takes : told ≡ answer.Refilled segment
  pub left : holder_at (core_at old core).state segment ≡ orphan

-- since the opening, a step of a worker leaves what counts for a tenant with any worker over all
-- cores no higher than it was, or within the limit, unless this worker adopts
abbrev pub SumsStayLow : Type 0
SumsStayLow =
    (policy : Policy) (room : ℕ) (entries : List Entry) (old new : BankState) (worker : ℕ)
    (request : Request) (told : Answer) (heap tenant : ℕ)
    → IsSinceOpening policy room entries old
    → worker < policy.workers
    → BankStep old worker request told new
    → (charge_over new.cores heap tenant ≤ charge_over old.cores heap tenant)
    ⊎ (charge_over new.cores heap tenant ≤ limit_of policy tenant)
    ⊎ ((worker ≡ heap) × Adopts old worker request told)

-- somewhere in this the worker adopts
abbrev pub AdoptsIn : ℕ → BankState → List Entry → Type 0
AdoptsIn heap old [] = ⊥
AdoptsIn heap old (grew ∷ later) = AdoptsIn heap (grown old) later
AdoptsIn heap old (answered worker request core told ∷ later) =
    ((worker ≡ heap) × Adopts old worker request told)
    ⊎ ((mid : BankState) × BankStep old worker request told mid × AdoptsIn heap mid later)

-- so it is above the limit only where the worker has adopted
abbrev pub LimitsArePassedByAdopting : Type 0
LimitsArePassedByAdopting =
    (policy : Policy) (room : ℕ) (entries : List Entry) (new : BankState) (heap tenant : ℕ)
    → IsSinceOpening policy room entries new
    → limit_of policy tenant < charge_over new.cores heap tenant
    → AdoptsIn heap (opened_bank policy room) entries

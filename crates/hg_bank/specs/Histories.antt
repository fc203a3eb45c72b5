-- What happens to a bank.
use Rattle.std.specs.Prelude.{◌≡◌, ℕ, ◌<◌, List, [], ◌∷◌, length, All, Option}
use Rattle.std.specs.Prelude.{if◌then◌else◌}
use Rattle.hg_machine.specs.declared.Answer.{Answer}
use Rattle.hg_machine.specs.declared.Event.{Event}
use Rattle.hg_machine.specs.Holders.{is_number}
use Rattle.hg_machine.specs.Policy.{Policy}
use Rattle.hg_machine.specs.SoundPolicy.{IsSoundPolicy}
use Rattle.hg_bank.specs.Opening.{opened_bank, grown}
use Rattle.hg_bank.specs.Requests.{Request, event_of, server}
use Rattle.hg_bank.specs.State.{BankState}
use Rattle.hg_bank.specs.Steps.{BankStep}

-- a core more opened; or a worker's request was served by this core, or by none, and answered
pub data Entry : Type 0 where
  grew : Entry
  answered : ℕ → Request → Option ℕ → Answer → Entry

-- from old, this happened one after another, and left new
abbrev pub History : BankState → List Entry → BankState → Type 0
History old [] new = new ≡ old
History old (grew ∷ later) new = (length old.cores < old.room) × History (grown old) later new
History old (answered worker request core answer ∷ later) new =
    (core ≡ server old worker request)
    × ((mid : BankState) × BankStep old worker request answer mid × History mid later new)

-- what the core was asked, each event with its worker, and what it answered
abbrev pub events_at : ℕ → List Entry → List (ℕ × Event)
events_at core [] = []
events_at core (grew ∷ later) = events_at core later
events_at core (answered worker request served answer ∷ later) =
    if is_number core served
    then (worker, event_of request) ∷ events_at core later
    else events_at core later

abbrev pub answers_at : ℕ → List Entry → List Answer
answers_at core [] = []
answers_at core (grew ∷ later) = answers_at core later
answers_at core (answered worker request served answer ∷ later) =
    if is_number core served then answer ∷ answers_at core later else answers_at core later

-- an entry of a worker that the policy has
abbrev pub IsOfWorker : Policy → Entry → Type 0
IsOfWorker policy grew = Unit {0}
IsOfWorker policy (answered worker request core answer) = worker < policy.workers

-- what this, by workers of the policy, made of a bank since its opening
pub record IsSinceOpening (policy : Policy) (room : ℕ) (entries : List Entry) (b : BankState)
    : Type 0 where
  pub sound : IsSoundPolicy policy
  pub workers : All (IsOfWorker policy) entries
  pub history : History (opened_bank policy room) entries b

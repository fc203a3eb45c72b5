-- The rule of one run is kept of the service, a history of it is a run of the machine, and who has
-- all parts knows one run of all calls.
use Rattle.std.specs.Prelude.{◌≡◌, ℕ, ◌<◌, List, map, All}
use Rattle.hg_machine.specs.declared.Event.{Event}
use Rattle.hg_machine.specs.declared.Answer.{Answer}
use Rattle.hg_machine.specs.Policy.{Policy}
use Rattle.hg_machine.specs.State.{State, opening}
use Rattle.hg_machine.specs.Steps.{Run}
use Rattle.hg_agreement.specs.Views.{View}
use Rattle.hg_history.specs.History.{log_of, IsRun}
use Rattle.hg_history.specs.Laws.{KeepsOneRun}
use Rattle.hg_history.specs.OneRun.{IsOneRun, HasAll}
use Rattle.hg_history.specs.Service.{IsIn}
use Rattle.hg_roles.specs.Names.{IsOf}
use Rattle.hg_roles.specs.Roles.{Call, Role, of_worker, RoleAgrees}
use Rattle.hg_roles.specs.Served.{WordsShow, running}

-- the rule holds of new parts; each step that decides calls keeps it, and so does each join and
-- split of seats; and a seat that has all parts knows the history
abbrev pub PartsKeepOneRun : Type 0
PartsKeepOneRun = (policy : Policy) → KeepsOneRun (running policy)

-- what was asked, by which worker, and what was answered
abbrev pub events_in : List (ℕ × Call) → List (ℕ × Event)
events_in = map (λ made. (made.0, made.1.0))

abbrev pub answers_in : List (ℕ × Call) → List Answer
answers_in = map (λ made. made.1.1)

-- so each law of runs speaks of a history
abbrev pub HistoriesAreRuns : Type 0
HistoriesAreRuns =
    (policy : Policy) (history : List (ℕ × Call)) (new : State)
    → IsRun (running policy).Steps (opening policy) history new
    → Run (opening policy) (events_in history) (answers_in history) new

-- There is a run of the machine from the opening of the policy, to a state that the words show and
-- that agrees with each part. The calls of each worker in it are those that the worker has logged,
-- in their order, and all are of workers of the policy
pub record IsRunOfAll (policy : Policy) (words : List ℕ) (view : List Role) : Type 0 where
  pub history : List (ℕ × Call)
  pub state : State
  pub run : Run (opening policy) (events_in history) (answers_in history) state
  pub shown : WordsShow policy words state
  pub agrees : (j : ℕ) (role : Role) → IsIn view j role → RoleAgrees role state
  pub logs :
      (j : ℕ) (has : View) (log : List Call) → IsIn view j (of_worker has log)
      → log_of has.worker history ≡ log
  pub theirs : All (λ asked. asked.0 < policy.workers) (events_in history)

-- it is known to a seat that has all parts of the service, each of a role that the policy has
abbrev pub EndsAreRuns : Type 0
EndsAreRuns =
    (policy : Policy) (words : List ℕ) (views : List (List Role)) (i : ℕ) (view : List Role)
    → IsOneRun (running policy) words views → IsIn views i view → HasAll (running policy) view
    → ((j : ℕ) (role : Role) → IsIn view j role → IsOf policy role)
    → IsRunOfAll policy words view

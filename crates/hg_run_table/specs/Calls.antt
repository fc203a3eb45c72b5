-- Calls of a worker, by the word that their deciding step finds.
use Rattle.std.specs.Prelude.{◌≡◌, ℕ, ◌<◌, true, false, List, [], ◌∷◌, ◌++◌, Option, Some, None}
use Rattle.hg_machine.specs.Policy.{Policy}
use Rattle.hg_machine.specs.Refusal.{refusal}
use Rattle.hg_machine.specs.State.{State}
use Rattle.hg_agreement.specs.Views.{View}
use Rattle.hg_agreement.specs.Agreement.{Agrees, Ties}
use Rattle.hg_frame.specs.SlotWords.{changes_word}
use Rattle.hg_roles.specs.Deciding.{IsCallOf}
use Rattle.hg_roles.specs.Roles.{Call, of_worker}
use Rattle.hg_roles.specs.Served.{places_of_policy}
use Rattle.hg_run_table.specs.declared.part.Part.{Part}
use Rattle.hg_run_table.specs.declared.table.RunSeat.{RunSeat}
use Rattle.hg_run_table.specs.Seated.{HaveRoles}

-- what the first part of a seat has logged
abbrev pub first_log : List Part → List Call
first_log [] = []
first_log (part ∷ more) = part.log

abbrev pub log_in : RunSeat → List Call
log_in seat = first_log seat.seat.me.0.run

-- the seat has one part, a worker's, which has this view
abbrev pub IsWorkers : RunSeat → View → Type 0
IsWorkers seat view = HaveRoles seat.seat.me.0.run (of_worker view (log_in seat) ∷ [])

-- A step decides a call, or none: then the worker's log is longer by it, and its view is another;
-- else both are as they were
abbrev pub with_call : List Call → Option Call → List Call
with_call log None = log
with_call log (Some call) = log ++ call ∷ []

abbrev pub view_by : View → Option Call → View → View
view_by before None after = before
view_by before (Some call) after = after

-- A call of a worker is tied at the word of a place that its step finds, and the one that it leaves
pub record IsTiedAt
    (policy : Policy) (place word left : ℕ) (before : View) (call : Call) (after : View)
    : Type 0 where
  pub own : IsCallOf policy before after call.0
  pub alone :
      (other : ℕ) → other < places_of_policy policy → changes_word call.0 call.1 other ≡ true
      → other ≡ place
  pub ties :
      Ties before (Some (record { place = place; word = word })) call.0 call.1 after
      (Some (record { place = place; word = left }))

-- where none is decided the step leaves the word
abbrev pub MayCall : Policy → ℕ → ℕ → ℕ → View → Option Call → View → Type 0
MayCall policy place word left before None after = left ≡ word
MayCall policy place word left before (Some call) after =
    IsTiedAt policy place word left before call after

-- a call of a worker is tied without a word, and changes none
pub record IsTiedAlone (policy : Policy) (before : View) (call : Call) (after : View)
    : Type 0 where
  pub own : IsCallOf policy before after call.0
  pub none :
      (other : ℕ) → other < places_of_policy policy → changes_word call.0 call.1 other ≡ false
  pub ties : Ties before None call.0 call.1 after None

-- each state that agrees with the worker refuses the call's event with its answer
pub record IsRefused (policy : Policy) (before : View) (call : Call) : Type 0 where
  pub worker : before.worker < policy.workers
  pub refused : (m : State) → Agrees m before None → refusal m before.worker call.0 ≡ Some call.1

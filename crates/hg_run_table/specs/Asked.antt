-- What a worker's part of a seat is asked, and how a step at the word of a place answers it. Asking is
-- no duty: what no step answers is in no log.
use Rattle.std.specs.Prelude.{◌≡◌, ℕ, ◌==◌, ◌||◌, Bool, true, false, List, [], ◌∷◌, ◌++◌}
use Rattle.std.specs.Prelude.{map}
use Rattle.hg_machine.specs.declared.Event.{Event}
use Rattle.hg_machine.specs.Policy.{Policy}
use Rattle.hg_machine.specs.Shown.{IsShownBy}
use Rattle.hg_machine.specs.Soundness.{IsSound}
use Rattle.hg_machine.specs.State.{State, record_at}
use Rattle.hg_machine.specs.Steps.{Step}
use Rattle.hg_frame.specs.SlotWords.{changes_word}
use Rattle.hg_history.specs.Service.{IsIn}
use Rattle.hg_roles.specs.Deciding.{is_own}
use Rattle.hg_roles.specs.Roles.{Call}
use Rattle.hg_run_table.specs.declared.part.Part.{Part}
use Rattle.hg_run_table.specs.declared.part.PartName.{PartName}
use Rattle.hg_run_table.specs.declared.part.PartName.TheVariants.{Worker, Remote, Pool, Segment}
use Rattle.hg_run_table.specs.Seated.{PartAgrees}

-- the part is asked these events, step by step
abbrev pub asking : List (List Event) → Part → Part
asking asked part =
    record { name = part.name; log = part.log; asked = asked; witness = part.witness }

abbrev pub is_worker : ℕ → PartName → Bool
is_worker worker (Worker number) = number == worker
is_worker worker (Remote number) = false
is_worker worker Pool = false
is_worker worker (Segment number) = false

-- the worker's part has logged these calls, is asked the rest, and has what the state has of it
abbrev pub answered_if : Bool → List Call → List (List Event) → State → Part → Part
answered_if true calls rest state part =
    record { name = part.name; log = part.log ++ calls; asked = rest; witness = state }
answered_if false calls rest state part = part

abbrev pub answered : ℕ → List Call → List (List Event) → State → Part → Part
answered worker calls rest state part =
    answered_if (is_worker worker part.name) calls rest state part

-- the worker decides the call alone, the machine makes it, and it changes no word but that of the
-- place
pub record IsMade (place worker : ℕ) (call : Call) (old new : State) : Type 0 where
  pub own : is_own call.0 ≡ true
  pub step : Step old worker call.0 call.1 new
  pub alone : (other : ℕ) → changes_word call.0 call.1 other ≡ true → other ≡ place

-- one call after another
abbrev pub AreMade : ℕ → ℕ → List Call → State → State → Type 0
AreMade place worker [] old new = new ≡ old
AreMade place worker (call ∷ calls) old new =
    (mid : State) × IsMade place worker call old mid × AreMade place worker calls mid new

-- The events are answered from a state, by a step at the place that leaves this word there
pub record IsAnswer (place left worker : ℕ) (events : List Event) (old : State) : Type 0 where
  pub calls : List Call
  pub new : State
  pub events_are : map (λ call. call.0) calls ≡ events
  pub made : AreMade place worker calls old new
  pub word : IsShownBy (record_at new place) left

-- the worker's part of a seat is asked this
abbrev pub IsWorkerAsked : ℕ → List (List Event) → List Part → Type 0
IsWorkerAsked worker asked run =
    (j : ℕ) (part : Part) → IsIn run j part → is_worker worker part.name ≡ true
    → part.asked ≡ asked

-- a worker's part of a seat is asked these events by the next step that answers, and then the rest
pub record IsAsked (run : List Part) : Type 0 where
  pub at : ℕ
  pub part : Part
  pub there : IsIn run at part
  pub worker : ℕ
  pub named : part.name ≡ Worker worker
  pub events : List Event
  pub rest : List (List Event)
  pub asks : part.asked ≡ events ∷ rest

-- such a part, and whatever state of the policy agrees with it and shows the word of the place, its
-- events are answered from there by a step that leaves that word
pub record MayAnswer (policy : Policy) (place word left : ℕ) (run : List Part) : Type 0 where
  pub who : IsAsked run
  pub answer :
      (m : State) → IsSound m → m.policy ≡ policy → PartAgrees policy who.part m
      → IsShownBy (record_at m place) word → IsAnswer place left who.worker who.events m

-- a step that found the word has answered what the part was asked, from a state that agreed with it
-- and showed the word, and left that word
pub record IsAnswered (place word left : ℕ) (old new : List Part) : Type 0 where
  pub who : IsAsked old
  pub state : State
  pub sound : IsSound state
  pub agrees : PartAgrees state.policy who.part state
  pub shown : IsShownBy (record_at state place) word
  pub answer : IsAnswer place left who.worker who.events state
  pub now : new ≡ map (answered who.worker answer.calls who.rest answer.new) old

-- some worker's part is asked something
abbrev pub is_asking : PartName → List (List Event) → Bool
is_asking (Worker number) [] = false
is_asking (Worker number) (events ∷ rest) = true
is_asking (Remote number) asked = false
is_asking Pool asked = false
is_asking (Segment number) asked = false

abbrev pub is_asked : List Part → Bool
is_asked [] = false
is_asked (part ∷ more) = is_asking part.name part.asked || is_asked more

-- Where a worker is asked something, a step at the place may answer it; where none is, it leaves the word
abbrev pub MayLeaveIf : Bool → Policy → ℕ → ℕ → ℕ → List Part → Type 0
MayLeaveIf true policy place word left run = MayAnswer policy place word left run
MayLeaveIf false policy place word left run = left ≡ word

abbrev pub MayLeave : Policy → ℕ → ℕ → ℕ → List Part → Type 0
MayLeave policy place word left run = MayLeaveIf (is_asked run) policy place word left run

-- it was answered; or none was asked anything, and no part has changed
abbrev pub HasLeftIf : Bool → ℕ → ℕ → ℕ → List Part → List Part → Type 0
HasLeftIf true place word left old new = IsAnswered place word left old new
HasLeftIf false place word left old new = new ≡ old

abbrev pub HasLeft : ℕ → ℕ → ℕ → List Part → List Part → Type 0
HasLeft place word left old new = HasLeftIf (is_asked old) place word left old new

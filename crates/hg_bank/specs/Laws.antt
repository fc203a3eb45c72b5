-- Laws of a bank's steps, and of what happens to it.
use Rattle.std.specs.Prelude.{◌≡◌, ◌≢◌, ◌⊎◌, ℕ, ◌<◌, ◌≤◌, true, false, List, [], ◌∷◌, length}
use Rattle.std.specs.Prelude.{Option, Some, None, slice_get}
use Rattle.hg_choice.specs.ChosenSteps.{Chosen, ChosenStep}
use Rattle.hg_place.specs.declared.Actor.{Actor}
use Rattle.hg_machine.specs.declared.Answer.{Answer}
use Rattle.hg_machine.specs.declared.Answer.TheVariants as answer
use Rattle.hg_machine.specs.declared.Event.{Event}
use Rattle.hg_machine.specs.Holders.{next_of}
use Rattle.hg_machine.specs.Lists.{Kept}
use Rattle.hg_machine.specs.Policy.{Policy}
use Rattle.hg_machine.specs.Request.{size_of}
use Rattle.hg_machine.specs.Room.{has_room}
use Rattle.hg_machine.specs.State.{State, opening}
use Rattle.hg_machine.specs.Steps.{Step}
use Rattle.hg_bank.specs.declared.bank.TheConstants.{ARENAS}
use Rattle.hg_bank.specs.Histories.{Entry, History, events_at, answers_at, IsSinceOpening}
use Rattle.hg_bank.specs.Opening.{core_at}
use Rattle.hg_bank.specs.Requests.{Request, alloc, refill, named, names_core, event_of, server}
use Rattle.hg_bank.specs.Requests.{absent}
use Rattle.hg_bank.specs.Sound.{IsSoundBank}
use Rattle.hg_bank.specs.State.{BankState, current_of}
use Rattle.hg_bank.specs.Steps.{BankStep}

-- each core but the one that serves stays as it was
abbrev pub OthersStay : Type 0
OthersStay =
    (old new : BankState) (worker : ℕ) (request : Request) (told : Answer) (core : ℕ)
    → server old worker request ≢ Some core → BankStep old worker request told new
    → slice_get new.cores core ≡ slice_get old.cores core

-- a step keeps the policy
abbrev pub BankStepsKeepPolicy : Type 0
BankStepsKeepPolicy =
    (old : BankState) (worker : ℕ) (request : Request) (told : Answer) (new : BankState)
    → BankStep old worker request told new → new.policy ≡ old.policy

-- the request determines its answer, and what the bank is afterwards
abbrev pub StepsAreDetermined : Type 0
StepsAreDetermined =
    (old new last : BankState) (worker : ℕ) (request : Request) (told given : Answer)
    → BankStep old worker request told new → BankStep old worker request given last
    → (given ≡ told) × (last ≡ new)

-- what the core was asked and answered in this is a run of the core's machine, with its choices,
-- from what it was, or from its opening where it wasn't there yet; and no core goes away
pub record IsRunOf (core : ℕ) (old : BankState) (entries : List Entry) (new : BankState) : Type 0
  where
    pub run : Chosen (core_at old core) (events_at core entries) (answers_at core entries)
        (core_at new core)
    pub stays : length old.cores ≤ length new.cores

-- so it is of each core
abbrev pub EachCoreRuns : Type 0
EachCoreRuns =
    (old new : BankState) (entries : List Entry) (core : ℕ)
    → History old entries new → IsRunOf core old entries new

-- NoRoom is answered where no core has room, and NoSegment where none has a segment to take
pub record AllWereAsked : Type 0 where
  pub room :
      (old new : BankState) (worker : ℕ) (actor : Actor) (arena bytes core : ℕ) (k : Kept)
      → IsSoundBank old → worker < old.policy.workers
      → BankStep old worker (alloc actor arena bytes) answer.NoRoom new
      → slice_get old.cores core ≡ Some k → has_room k.state worker arena (size_of bytes) ≡ false
  pub segments :
      (old new : BankState) (worker arena core : ℕ) (k : Kept)
      → IsSoundBank old → BankStep old worker (refill arena) answer.NoSegment new
      → slice_get old.cores core ≡ Some k → next_of k.state arena ≡ None

-- the arena of an allocation or a refill
abbrev pub arena_asked : Request → Option ℕ
arena_asked (alloc actor arena bytes) = Some arena
arena_asked (refill arena) = Some arena
arena_asked (named core event) = None

-- the core that serves an allocation or a refill is current from then on for the worker and the
-- arena, and each other current core stays
pub record CurrentsMove : Type 0 where
  pub moves :
      (policy : Policy) (room : ℕ) (entries : List Entry) (old new : BankState) (worker : ℕ)
      (request : Request) (told : Answer) (arena core : ℕ)
      → IsSinceOpening policy room entries old
      → worker < policy.workers → arena < ARENAS → arena_asked request ≡ Some arena
      → server old worker request ≡ Some core → BankStep old worker request told new
      → current_of new.currents worker arena ≡ core
  pub stay :
      (old new : BankState) (worker : ℕ) (request : Request) (told : Answer) (other arena : ℕ)
      → (other ≢ worker) ⊎ (arena_asked request ≢ Some arena)
      → BankStep old worker request told new
      → current_of new.currents other arena ≡ current_of old.currents other arena

-- an event that names a core which isn't there is answered as a core may that just opened
abbrev pub AbsentIsUnused : Type 0
AbsentIsUnused =
    (policy : Policy) (worker : ℕ) (event : Event)
    → names_core event ≡ true
    → (new : State) × Step (opening policy) worker event (absent policy event) new

-- an allocation, a refill, or an event that names the first core
abbrev pub IsOfFirst : Request → Type 0
IsOfFirst (alloc actor arena bytes) = Unit {0}
IsOfFirst (refill arena) = Unit {0}
IsOfFirst (named core event) = (core ≡ 0) × (names_core event ≡ true)

-- a bank of one core answers as that core does
abbrev pub OneCoreIsACore : Type 0
OneCoreIsACore =
    (old new : BankState) (worker : ℕ) (request : Request) (told : Answer) (k : Kept)
    → IsSoundBank old → old.cores ≡ k ∷ [] → IsOfFirst request
    → BankStep old worker request told new
    → (next : Kept) × ChosenStep k worker (event_of request) told next × (new.cores ≡ next ∷ [])

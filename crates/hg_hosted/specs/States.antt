-- What hg_worker's contracts say of a worker, said of one without its service's name.
use Rattle.std.specs.Prelude.{ℕ, ◌-◌, List, [], ◌∷◌, Option}
use Rattle.hg_place.specs.declared.Actor.{Actor}
use Rattle.hg_place.specs.declared.Place.{Place}
use Rattle.hg_place.specs.Lives.{IsLiveWord, word_generation}
use Rattle.hg_machine.specs.declared.Event.{Event}
use Rattle.hg_machine.specs.declared.Answer.{Answer}
use Rattle.hg_machine.specs.declared.Row.{Row}
use Rattle.hg_agreement.specs.Views.{Shown}
use Rattle.hg_heap.specs.Keeping.{KeepsAll}
use Rattle.hg_worker.specs.declared.state.WorkerState.{WorkerState}
use Rattle.hg_worker.specs.Listing.{AreLooks}
use Rattle.hg_worker.specs.Records.{GoHome}
use Rattle.hg_worker.specs.Seats.{number_in, records_in, part_of_seat}
use Rattle.hg_worker.specs.Seen.{word_of, Looked, Decided, StepsWithin, KeepsSeats, MayShow}
use Rattle.hg_worker.specs.Seen.{EndsNothing}
use Rattle.hg_worker.specs.Tied.{IsTied, KeepsRest}
use Rattle.hg_worker.specs.Workers.{had_in}

-- a call looked at the place and ended no life
abbrev pub Looks : Place → Option Shown → WorkerState → WorkerState → Type 0
Looks place shown old new = Looked number_in part_of_seat place shown (had_in old) (had_in new)

-- a call decided at the place, and ended these lives
abbrev pub Decides : Place → ℕ → ℕ → List (ℕ × ℕ) → WorkerState → WorkerState → Type 0
Decides place found left lives old new =
    Decided number_in part_of_seat place found left lives (had_in old) (had_in new)

-- a call made no more steps than so many, all at the place
abbrev pub Tries : ℕ → Place → WorkerState → WorkerState → Type 0
Tries most place old new = StepsWithin number_in part_of_seat most place (had_in old) (had_in new)

-- a call ended the life of the live word that its last step found, and no other
abbrev pub Ends : Place → ℕ → WorkerState → WorkerState → Type 0
Ends place word old new =
    IsLiveWord word
    × Decides place word (word - 1) ((word_of place, word_generation word) ∷ []) old new

-- a call made no step
abbrev pub StaysUnseen : WorkerState → WorkerState → Type 0
StaysUnseen old new = KeepsSeats number_in part_of_seat (had_in old) (had_in new)

-- no seat that the worker keeps ended anything
abbrev pub LeavesLives : WorkerState → WorkerState → Type 0
LeavesLives old new = EndsNothing number_in part_of_seat (had_in old) (had_in new)

-- a step of the worker may find this word
abbrev pub Finds : Option Shown → WorkerState → Type 0
Finds shown state = MayShow number_in part_of_seat (had_in state) shown

-- the places that went home by a call are among these; none did
abbrev pub SendsHome : (ℕ → Type 0) → WorkerState → WorkerState → Type 0
SendsHome These old new = GoHome number_in records_in These old.heap.segments new.heap.segments

abbrev pub SendsNoneHome : WorkerState → WorkerState → Type 0
SendsNoneHome old new = SendsHome (λ place. ⊥) old new

-- a call left each segment its records, classes, words and lists
abbrev pub KeepsSegments : WorkerState → WorkerState → Type 0
KeepsSegments old new = KeepsAll number_in records_in old.heap.segments new.heap.segments

-- a call is the machine's
abbrev pub IsMachines
    : Option Shown → Event → Answer → Option Shown → WorkerState → WorkerState → Type 0
IsMachines shown event answer left old new =
    IsTied number_in records_in shown event answer left (had_in old) (had_in new)

-- one look at each of these places shows these rows
abbrev pub Lists : Actor → List Place → List Row → WorkerState → WorkerState → Type 0
Lists actor places rows old new =
    AreLooks number_in records_in part_of_seat actor places rows (had_in old) (had_in new)

-- a call keeps policy, number and hand
abbrev pub Keeps : WorkerState → WorkerState → Type 0
Keeps old new = KeepsRest (had_in old) (had_in new)

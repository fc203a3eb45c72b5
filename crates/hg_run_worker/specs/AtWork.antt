-- A worker over a table that keeps one run, while it makes no call: what it has, by its part of the run and
-- its heap.
use Rattle.std.specs.Prelude.{◌≡◌, ℕ, List, [], ◌∷◌, ◌++◌, Option, Some, None, slice_get, option_map, map}
use Rattle.std.specs.Arc.{arc_value}
use Rattle.std.specs.Box.{boxed_slice_items}
use Rattle.atomic_table.specs.Seated.{TableId}
use Rattle.hg_place.specs.declared.Actor.{Actor}
use Rattle.hg_place.specs.declared.Handle.{Handle}
use Rattle.hg_place.specs.declared.standing.Standing.{Standing}
use Rattle.hg_place.specs.Places.{number_of}
use Rattle.hg_machine.specs.declared.Answer.{Answer}
use Rattle.hg_machine.specs.declared.Answer.TheVariants as answer
use Rattle.hg_machine.specs.declared.Event.{Event}
use Rattle.hg_machine.specs.declared.Event.TheVariants as event
use Rattle.hg_machine.specs.Policy.{Policy}
use Rattle.hg_segment.specs.Kept.{Kept}
use Rattle.hg_machine.specs.State.{State}
use Rattle.hg_agreement.specs.Agreement.{Agrees, Ties}
use Rattle.hg_agreement.specs.Views.{Shown, View}
use Rattle.hg_heap.specs.Held.{KeepsLists, is_held}
use Rattle.hg_heap.specs.Keeping.{KeepsAll}
use Rattle.hg_heap.specs.Policies.{AreOf}
use Rattle.hg_heap.specs.Ties.{heap_view}
use Rattle.hg_roles.specs.Roles.{of_segment}
use Rattle.hg_run_table.specs.declared.segment.RunSegment.{RunSegment}
use Rattle.hg_run_table.specs.declared.table.RunSeat.{RunSeat}
use Rattle.hg_run_table.specs.Calls.{IsWorkers, log_in}
use Rattle.hg_run_table.specs.Seated.{HaveRoles}
use Rattle.hg_run_table.specs.Segments.{StepsIn}
use Rattle.hg_table.specs.Seats.{word_at}
use Rattle.hg_table.specs.Told.{IsShown}
use Rattle.hg_table.specs.View.{part_of}
use Rattle.hg_run_worker.specs.declared.worker.RunWorker.{RunWorker}

-- the number of a segment's seat, and its records
abbrev pub number_in : RunSegment → ℕ
number_in seat = seat.segment

abbrev pub records_in : RunSegment → List Standing
records_in seat = boxed_slice_items seat.records

-- the words that its steps may find, and its steps
abbrev pub shows_in : RunSegment → ℕ → ℕ → Type 0
shows_in s at word = IsShown (word_at s.segment at) word (part_of s.seat.seat.me.0.lives)

abbrev pub steps_in : RunSegment → ℕ → ℕ → ℕ → RunSegment → Type 0
steps_in s at found left t = StepsIn s.segment at found left s.seat t.seat

-- the numbers of segments
abbrev pub numbers_in : List (Kept RunSegment) → List ℕ
numbers_in = map (λ k. number_in k.slots)

-- the place in hand, and the generation of the life in hand
abbrev pub hand_place : Option Handle → Option ℕ
hand_place hand = option_map (λ handle. number_of handle.place) hand

abbrev pub hand_generation : Option Handle → ℕ
hand_generation None = 0
hand_generation (Some handle) = handle.generation

-- what the worker of a number has
abbrev pub worker_view : Policy → ℕ → Option Handle → List (Kept RunSegment) → View
worker_view policy number hand segments =
    heap_view number_in records_in policy number (hand_place hand) (hand_generation hand) segments

abbrev pub view_in : RunWorker → View
view_in worker = worker_view worker.policy worker.number worker.hand worker.heap.segments

-- the seat of a segment is of the table, and has its part of the run alone
pub record IsSeated (id : TableId) (one : RunSegment) : Type 0 where
  pub same : one.seat.seat.table_id ≡ id
  pub part : HaveRoles one.seat.seat.me.0.run (of_segment one.segment ∷ [])

-- so of each that is held
abbrev pub AreSeated : TableId → List (Kept RunSegment) → Type 0
AreSeated id segments =
    (at : ℕ) (k : Kept RunSegment) → slice_get segments at ≡ Some k → IsSeated id k.slots

-- The worker's part of the run is in a seat that has nothing of words and lives, and has what the worker has
-- and has logged; the seat of each segment that it holds has its part alone
pub record IsAtWork (id : TableId) (policy : Policy) (number : ℕ) (hand : Option Handle)
    (segments : List (Kept RunSegment)) (call : RunSeat) : Type 0 where
  pub same : call.seat.table_id ≡ id
  pub bare : call.seat.me.0.lives ≡ []
  pub worker : IsWorkers call (worker_view policy number hand segments)
  pub seated : AreSeated id segments

-- what the worker's Frees elsewhere have seen and ended is in a seat of one part, which has none of the run
pub record IsOwn (id : TableId) (seat : RunSeat) : Type 0 where
  pub same : seat.seat.table_id ≡ id
  pub one : seat.seat.me.0.lives ≡ part_of seat.seat.me.0.lives ∷ []
  pub bare : seat.seat.me.0.run ≡ []

abbrev pub HasOwn : TableId → Option RunSeat → Type 0
HasOwn id None = ⊥
HasOwn id (Some seat) = IsOwn id seat

-- A worker that makes no call is at work, with a seat of what it knows elsewhere, its segments are as the policy has
-- them, and the table is of its policy
pub record IsReady (worker : RunWorker) : Type 0 where
  pub work :
      IsAtWork (arc_value worker.table).table.shared.table_id worker.policy worker.number worker.hand
      worker.heap.segments worker.call
  pub own : HasOwn (arc_value worker.table).table.shared.table_id worker.own
  pub of : AreOf number_in worker.policy worker.heap.segments
  pub key : (arc_value worker.table).table.shared.key ≡ worker.policy

-- table, policy, number, own seat and hand are as they were
pub record KeepsRest (old new : RunWorker) : Type 0 where
  pub table : arc_value new.table ≡ arc_value old.table
  pub policy : new.policy ≡ old.policy
  pub number : new.number ≡ old.number
  pub own : new.own ≡ old.own
  pub hand : new.hand ≡ old.hand

-- A worker that was ready made a call: it is ready again, its log is longer by the call with its answer, and its
-- table, policy, number, own seat and hand are as they were
pub record HasCalled (event : Event) (answer : Answer) (old new : RunWorker) : Type 0 where
  pub ready : IsReady new
  pub log : log_in new.call ≡ log_in old.call ++ (event, answer) ∷ []
  pub rest : KeepsRest old new

-- it holds the segments that it held
abbrev pub HoldsSame : RunWorker → RunWorker → Type 0
HoldsSame old new =
    (segment : ℕ)
    → is_held number_in new.heap.segments segment ≡ is_held number_in old.heap.segments segment

-- Some state agreed with what a worker had, and showed the word that its step found, if it made one; and in every
-- such state the answer is the machine's, and the state after it agrees with what the worker has then, and with the
-- word left
pub record IsTied (event : Event) (answer : Answer) (before after : View) : Type 0 where
  pub shown : Option Shown
  pub left : Option Shown
  pub state : State
  pub met : Agrees state before shown
  pub ties : Ties before shown event answer after left

-- a call that moves no segment, and whose answer is tied
pub record HasCalledHere (event : Event) (answer : Answer) (old new : RunWorker) : Type 0 where
  pub called : HasCalled event answer old new
  pub holds : HoldsSame old new
  pub tied : IsTied event answer (view_in old) (view_in new)

-- of each segment all but what is known of its words is as it was, and all queues are
pub record KeepsHeap (old new : RunWorker) : Type 0 where
  pub all : KeepsAll number_in records_in old.heap.segments new.heap.segments
  pub lists : KeepsLists number_in old.heap.segments new.heap.segments
  pub queues : new.heap.queues ≡ old.heap.queues

-- table, policy and number are as they were, and this is in hand
pub record KeepsWith (hand : Option Handle) (old new : RunWorker) : Type 0 where
  pub table : arc_value new.table ≡ arc_value old.table
  pub policy : new.policy ≡ old.policy
  pub number : new.number ≡ old.number
  pub now : new.hand ≡ hand

-- the life in hand after a Free
abbrev pub hand_after : Answer → Handle → Option Handle → Option Handle
hand_after answer.Parted handle hand = Some handle
hand_after other handle hand = hand

-- A call that leaves this in hand: the worker is ready again, its log is longer by the call with its answer, and
-- its table, policy and number are as they were
pub record HasCalledLeaving (hand : Option Handle) (event : Event) (answer : Answer) (old new : RunWorker)
    : Type 0 where
  pub ready : IsReady new
  pub log : log_in new.call ≡ log_in old.call ++ (event, answer) ∷ []
  pub rest : KeepsWith hand old new

-- A Free: it may leave its block in hand, and moves no segment; its answer is tied as that of a call here is
pub record HasCalledFree (actor : Actor) (handle : Handle) (answer : Answer) (old new : RunWorker) : Type 0 where
  pub called : HasCalledLeaving (hand_after answer handle old.hand) (event.Free actor handle) answer old new
  pub holds : HoldsSame old new
  pub tied : IsTied (event.Free actor handle) answer (view_in old) (view_in new)

-- A worker's call over the table: its part of the run is lent to a segment, the heap makes a step there, and the
-- part comes back.
use Rattle.std.specs.Prelude.{◌≡◌, ℕ, true, false, List, [], ◌∷◌, Option}
use Rattle.atomic_table.specs.Seated.{TableId}
use Rattle.hg_lists.specs.Repeats.{HasNoRepeats}
use Rattle.hg_place.specs.declared.Handle.{Handle}
use Rattle.hg_place.specs.declared.Place.{Place}
use Rattle.hg_place.specs.Places.{number_of}
use Rattle.hg_machine.specs.declared.Answer.{Answer}
use Rattle.hg_machine.specs.declared.Event.{Event}
use Rattle.hg_machine.specs.Policy.{Policy}
use Rattle.hg_segment.specs.Kept.{Kept}
use Rattle.hg_agreement.specs.Views.{View}
use Rattle.hg_frame.specs.SlotWords.{changes_word}
use Rattle.hg_heap.specs.SlotsChanged.{SlotsChanged}
use Rattle.hg_heap.specs.Ties.{HeapTies, Stepped, shown_at}
use Rattle.hg_roles.specs.Roles.{of_worker}
use Rattle.hg_run_table.specs.declared.segment.RunSegment.{RunSegment}
use Rattle.hg_run_table.specs.declared.table.RunSeat.{RunSeat}
use Rattle.hg_run_table.specs.Asked.{IsWorkerAsked, is_asked}
use Rattle.hg_run_table.specs.Calls.{IsWorkers, log_in}
use Rattle.hg_run_table.specs.Seated.{HaveRoles}
use Rattle.hg_run_table.specs.Segments.{HasLent, HasGivenBack}
use Rattle.hg_run_worker.specs.AtWork.{IsAtWork, number_in, records_in, shows_in, steps_in, numbers_in, worker_view}

-- The worker's part of the run, which has what it had and is asked this, was lent to the segment of a number
pub record IsLent (id : TableId) (policy : Policy) (number : ℕ) (hand : Option Handle)
    (asked : List (List Event)) (segment : ℕ) (old : List (Kept RunSegment)) (call : RunSeat)
    (new : List (Kept RunSegment)) : Type 0 where
  pub what : RunSeat
  pub work : IsAtWork id policy number hand old call
  pub once : HasNoRepeats (numbers_in old)
  pub lent :
      SlotsChanged number_in records_in shows_in segment (λ s t. HasLent s.seat what t.seat) old new
  pub has :
      HaveRoles what.seat.me.0.run (of_worker (worker_view policy number hand old) (log_in call) ∷ [])
  pub asks : IsWorkerAsked number asked what.seat.me.0.run

-- so was a part that is asked nothing
pub record IsLentQuietly (segment : ℕ) (old : List (Kept RunSegment)) (call : RunSeat)
    (new : List (Kept RunSegment)) : Type 0 where
  pub what : RunSeat
  pub lent :
      SlotsChanged number_in records_in shows_in segment (λ s t. HasLent s.seat what t.seat) old new
  pub has :
      (view : View) → IsWorkers call view
      → HaveRoles what.seat.me.0.run (of_worker view (log_in call) ∷ [])
  pub quiet : is_asked what.seat.me.0.run ≡ false

-- it came back
abbrev pub HasComeBack
    : ℕ → List (Kept RunSegment) → RunSeat → List (Kept RunSegment) → Type 0
HasComeBack segment old call new =
    SlotsChanged number_in records_in shows_in segment (λ s t. HasGivenBack s.seat call t.seat) old new

-- a heap made one step at a place of the segment, and the call is tied there and changes no other word
pub record IsTiedStep (policy : Policy) (segment : ℕ) (place : Place) (word left : ℕ) (e : Event)
    (a : Answer) (old new : List (Kept RunSegment)) : Type 0 where
  pub inside : place.segment ≡ segment
  pub stepped : Stepped number_in shows_in steps_in place word left old new
  pub ties : HeapTies number_in records_in policy (shown_at place word) (shown_at place left) e a old new
  pub alone : (other : ℕ) → changes_word e a other ≡ true → other ≡ number_of place

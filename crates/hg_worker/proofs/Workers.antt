-- A worker has what its witness asks for, and what a look is to it: one lemma for all events.
use Rattle.std.proofs.Common.{◌≡◌, ℕ, Bool, true, false, List, refl, sym, subst}
use Rattle.std.specs.Prelude.{Option, Contains}
use Rattle.atomic_table.specs.Seated.{TableId}
use Rattle.hg_lists.specs.Repeats.{HasNoRepeats}
use Rattle.hg_place.specs.declared.Place.{Place}
use Rattle.hg_machine.specs.declared.Event.{Event}
use Rattle.hg_machine.specs.declared.Answer.{Answer}
use Rattle.hg_machine.specs.declared.Rule.{Rule}
use Rattle.hg_machine.specs.Policy.{Policy}
use Rattle.hg_segment.specs.Kept.{Kept}
use Rattle.hg_segment.specs.Settled.{IsSettled}
use Rattle.hg_agreement.specs.Views.{Shown}
use Rattle.hg_heap.specs.Answers.{away_answer}
use Rattle.hg_heap.specs.Held.{Held, is_held}
use Rattle.hg_heap.specs.Policies.{AreOf}
use Rattle.hg_heap.specs.Ties.{HeapTies, Stepped, shown_at}
use Rattle.hg_heap.proofs.Founds.{numbers}
use Rattle.hg_heap.proofs.PolicyKept.{steps_keep_policy}
use Rattle.hg_table.specs.declared.segment.UnnamedSegment.{UnnamedSegment}
use Rattle.hg_worker.specs.declared.state.WorkerState.{WorkerState}
use Rattle.hg_worker.specs.Had.{Had, view_in, hand_place, hand_generation}
use Rattle.hg_worker.specs.Judged.{found_word}
use Rattle.hg_worker.specs.Hands.{KnowsHand}
use Rattle.hg_table.specs.Named.{table_of_worker}
use Rattle.hg_worker.specs.Seats.{number_in, records_in, part_of_seat}
use Rattle.hg_worker.specs.Seats.{AreOnTable}
use Rattle.hg_worker.specs.Seats.{seat_shows, seat_steps}
use Rattle.hg_worker.specs.Seen.{Looked, StepsWithin}
use Rattle.hg_worker.specs.Tied.{IsTied, KeepsRest}
use Rattle.hg_worker.specs.States.{IsNamed}
use Rattle.hg_worker.specs.Workers.{had_in}
use Rattle.hg_worker.proofs.Away.{IsOfBlock, shown_where, tied_away}
use Rattle.hg_worker.proofs.Hands.{knows_still, stepped_grown, the_same}
use Rattle.hg_worker.proofs.Seats.{Whole, looked_held, machines_held, machines_away}
use Rattle.hg_worker.proofs.Steps.{held_once}
use Rattle.hg_worker.proofs.Tables.{stepped_as, stepped_on_table}

-- what a look answers is the machine's
abbrev pub IsSeen : Place → Event → Answer → Had UnnamedSegment
    → Had UnnamedSegment → Type 0
IsSeen place event answer old new = (shown : Option Shown)
    × Looked number_in part_of_seat place shown old new
    × IsTied number_in records_in shown event answer shown old new

pub whole_of : (w : WorkerState)
    → ((k : Kept UnnamedSegment) → Contains w.heap.segments k
    → IsSettled records_in k)
    → Whole (had_in w)
whole_of w settled = record {
  policy = w.sound;
  below = w.below;
  of = w.of;
  settled = settled;
  hand = w.reach;
  known = w.known;
}

-- what was asked of the worker holds of what is in its box
pub held_by : {s t : WorkerState} (segment : ℕ) {held : Bool} → s ≡ t
    → is_held number_in t.heap.segments segment ≡ held
    → is_held number_in s.heap.segments segment ≡ held
held_by {s} {t} segment {held} same is =
    subst (λ (w : WorkerState). is_held number_in w.heap.segments segment ≡ held) (sym same) is

-- and its service is
pub named_by : {s t : WorkerState} {policy : Policy} {table : TableId} → s ≡ t
    → IsNamed policy table t → IsNamed policy table s
named_by {s} {t} {policy} {table} same is = subst (IsNamed policy table) (sym same) is

-- what a worker's box asks of its segments
pub record Stays (w : WorkerState) (new : Held UnnamedSegment) : Type 0 where
  pub of : AreOf number_in w.policy new.segments
  pub together : AreOnTable (table_of_worker w.seat) new.segments
  pub known : KnowsHand number_in part_of_seat w.hand (had_in w).own new.segments

-- a step of the heap leaves it
pub stepped_stays : (w : WorkerState) (new : Held UnnamedSegment) (place : Place) (word left : ℕ)
    → Stepped number_in seat_shows seat_steps place word left w.heap.segments new.segments
    → Stays w new
stepped_stays w new place word left st = record {
  of = steps_keep_policy number_in seat_shows seat_steps w.policy place word left
      w.heap.segments new.segments st w.of;
  together = stepped_on_table st w.together;
  known = knows_still number_in part_of_seat (the_same (had_in w).own)
      (stepped_grown number_in part_of_seat (stepped_as st)) w.known;
}

-- so does a call that leaves the heap as it was
pub same_stays : (w : WorkerState) (new : Held UnnamedSegment) → new ≡ w.heap → Stays w new
same_stays w new same =
    subst (Stays w) (sym same) (record { of = w.of; together = w.together; known = w.known })

-- a look by the heap
module _ (w : WorkerState) (new : Held UnnamedSegment) (place : Place)
    (settled : (k : Kept UnnamedSegment) → Contains w.heap.segments k
    → IsSettled records_in k)
    (once : HasNoRepeats (numbers number_in w.heap.segments))
    (held : is_held number_in w.heap.segments place.segment ≡ true) (word : ℕ)
    (st : Stepped number_in seat_shows
    seat_steps place word word w.heap.segments new.segments) where
  pub held_looks
      : Looked number_in part_of_seat place (shown_at place word) (had_in w)
      (record (had_in w) { heap = new })
  held_looks =
      looked_held (had_in w) (record (had_in w) { heap = new }) place word (whole_of w settled) once
      held st refl

  pub held_tries
      : StepsWithin number_in part_of_seat 1 place (had_in w) (record (had_in w) { heap = new })
  held_tries =
      held_once number_in part_of_seat place word word (had_in w) (record (had_in w) { heap = new })
      once (stepped_as st)

  pub held_call : (event : Event) (answer : Answer)
      → HeapTies number_in records_in w.policy (shown_at place word) (shown_at place word) event
      answer w.heap.segments new.segments
      → IsSeen place event answer (had_in w) (record (had_in w) { heap = new })
  held_call event answer ties = (
    shown_at place word,
    held_looks,
    machines_held (had_in w) (record (had_in w) { heap = new }) place word (whole_of w settled) once
        held st refl event answer
        (ties w.number (hand_place w.hand) (hand_generation w.hand) w.below),
  )

-- what the use of a block comes to
pub record IsUse (place : Place) (event : Event) (answer : Answer) (old new : Had UnnamedSegment)
    : Type 0 where
  pub seen : IsSeen place event answer old new
  pub once : StepsWithin number_in part_of_seat 1 place old new
  pub any_hand :
      (word : ℕ) × Looked number_in part_of_seat place (shown_at place word) old new
      × HeapTies number_in records_in old.policy (shown_at place word) (shown_at place word) event
      answer old.heap.segments new.heap.segments

-- that of a held block, of a worker that had what is in its box
module _ {w box : WorkerState} (same : w ≡ box) (new : Held UnnamedSegment) (place : Place)
    (settled : (k : Kept UnnamedSegment) → Contains w.heap.segments k → IsSettled records_in k)
    (once : HasNoRepeats (numbers number_in w.heap.segments))
    (held : is_held number_in w.heap.segments place.segment ≡ true) (word : ℕ)
    (st : Stepped number_in seat_shows seat_steps place word word w.heap.segments new.segments)
  where
    pub held_use : (event : Event) (answer told : Answer) → answer ≡ told
        → HeapTies number_in records_in w.policy (shown_at place word) (shown_at place word) event
        told w.heap.segments new.segments
        → IsUse place event answer (had_in box) (record (had_in w) { heap = new })
    held_use event answer told is ties =
        subst (λ a. IsUse place event a (had_in box) (record (had_in w) { heap = new })) (sym is)
        (subst (λ b. IsUse place event told (had_in b) (record (had_in w) { heap = new })) same
        (record {
          seen = held_call w new place settled once held word st event told ties;
          once = held_tries w new place settled once held word st;
          any_hand = (word, held_looks w new place settled once held word st, ties);
        }))

    -- what is so of the word
    pub held_finds : (P : WorkerState → ℕ → Type 0) → P w word
        → (shown : Option Shown)
        × Looked number_in part_of_seat place shown (had_in box) (record (had_in w) { heap = new })
        × P box (found_word shown)
    held_finds P is = (
      shown_at place word,
      subst (λ b. Looked number_in part_of_seat place (shown_at place word) (had_in b)
          (record (had_in w) { heap = new })) same (held_looks w new place settled once held word
          st),
      subst (λ b. P b word) same is,
    )

-- a look by the worker's own seat, by the verdict on the word that it found
pub away_call : (w new : WorkerState) (place : Place) (event : Event) (answer : Answer)
    (rule : Option Shown → Option Rule) (others : List (Bool × Answer))
    → ((k : Kept UnnamedSegment) → Contains w.heap.segments k → IsSettled records_in k)
    → new.heap ≡ w.heap → KeepsRest (had_in w) (had_in new)
    → ((shown : Option Shown) × Looked number_in part_of_seat place shown (had_in w) (had_in new)
    × (answer ≡ away_answer (rule shown)))
    → is_held number_in w.heap.segments place.segment ≡ false
    → IsOfBlock (view_in number_in records_in (had_in w)) place event rule others
    → IsSeen place event answer (had_in w) (had_in new)
away_call w new place event answer rule others settled heap rest told away is = (
  told.0,
  told.1,
  machines_away (had_in w) (had_in new) place told.0 event answer (away_answer (rule told.0))
      (whole_of w settled) heap rest told.1 told.2
      (tied_away number_in records_in (had_in w) told.0 w.below place event rule others is away
      (shown_where number_in records_in part_of_seat place told.0 (had_in w) (had_in new) told.1)),
)

-- What the seats of a worker tell it.
use Rattle.std.proofs.Common.{◌≡◌, ℕ, ◌%◌, true, [], map, Some, None, is_some}
use Rattle.std.proofs.Common.{refl, sym, ap, subst, ◌∙◌, arith}
use Rattle.std.specs.Prelude.{Option, option_map, IfSome}
use Rattle.std.proofs.lemmas.Option.{slice_get_within}
use Rattle.hg_lists.specs.Repeats.{HasNoRepeats}
use Rattle.hg_place.specs.declared.Place.{Place}
use Rattle.hg_place.specs.Places.{number_of, segment_of}
use Rattle.hg_place.specs.Standings.{slot_of}
use Rattle.hg_machine.specs.declared.Event.{Event}
use Rattle.hg_machine.specs.declared.Answer.{Answer}
use Rattle.hg_machine.specs.Policy.{arena_of}
use Rattle.hg_segment.specs.Kept.{Kept}
use Rattle.hg_agreement.specs.Agreement.{Agrees, Ties}
use Rattle.hg_agreement.specs.Holdings.{holding_of, standing_told}
use Rattle.hg_agreement.specs.Views.{View, Shown, IsWordOf}
use Rattle.hg_agreement.specs.Witness.{IsFoundBy, IsUsual, witness}
use Rattle.hg_agreement.proofs.Sees.{segment_is}
use Rattle.hg_heap.specs.Held.{segment_in, is_held}
use Rattle.hg_heap.specs.Policies.{AreOf}
use Rattle.hg_heap.specs.Ties.{Stepped, holding, shown_at}
use Rattle.hg_heap.proofs.Founds.{numbers, at_is}
use Rattle.hg_heap.proofs.Looking.{slot_below}
use Rattle.hg_heap.proofs.ViewRoom.{view_holds, holding_in, found_one}
use Rattle.hg_heap.proofs.Options.{some_of}
use Rattle.hg_table.specs.declared.segment.UnnamedSegment.{UnnamedSegment}
use Rattle.hg_table.specs.Fitting.{fitting}
use Rattle.hg_table.specs.Seats.{word_at}
use Rattle.hg_table.specs.Told.{IsShown}
use Rattle.hg_table.proofs.Knowing.{itself}
use Rattle.hg_worker.specs.Had.{Had, view_in}
use Rattle.hg_worker.specs.Seats.{number_in, records_in, part_of_seat}
use Rattle.hg_worker.specs.Seats.{seat_shows, seat_steps}
use Rattle.hg_worker.specs.Seen.{word_of, part_by, part_for, Decided, Looked, MayShow}
use Rattle.hg_worker.specs.Tied.{IsTied, KeepsRest}
use Rattle.hg_worker.proofs.Away.{same_view}
use Rattle.hg_worker.proofs.Hands.{past_hand, saw_for}
use Rattle.hg_worker.proofs.Witnessed.{IsWhole, usual_agrees}
use Rattle.hg_worker.specs.Hands.{KnowsHand}
use Rattle.hg_worker.proofs.Steps.{held_decides, looked_ends}
use Rattle.hg_worker.proofs.Tables.{stepped_as}

-- what a worker keeps
abbrev pub Whole : Had UnnamedSegment → Type 0
Whole had = IsWhole number_in records_in part_of_seat had

-- and its witness state agrees
agrees : (had : Had UnnamedSegment) (shown : Option Shown) → Whole had
    → IfSome shown (IsFoundBy (view_in number_in records_in had))
    → IsUsual (view_in number_in records_in had) shown
    → Agrees (witness (view_in number_in records_in had) shown) (view_in number_in records_in had)
    shown
agrees had shown whole found usual =
    usual_agrees number_in records_in part_of_seat seat_shows
    (λ s. s.sized)
    (λ s. s.sane)
    (λ s at word below is. fitting s.segment at word (part_of_seat s) (records_in s)
    s.first s.recorded s.sized below is) had whole shown found usual

-- a word that the worker's seat for a place may find fits what its heap records
word_fits : (had : Had UnnamedSegment) (place : Place) (word : ℕ)
    (o : Option (Kept UnnamedSegment))
    → segment_in number_in had.heap.segments place.segment ≡ o → is_some o ≡ true
    → IsShown (word_of place) word (part_by number_in part_of_seat o had.own)
    → IsWordOf (standing_told (option_map (holding number_in records_in) o) (slot_of place)) word
word_fits had place word None is some shown = absurd (cc)
word_fits had place word (Some k) is some shown =
    let n = (found_one number_in records_in had.heap.segments place.segment k is).1 in
    fitting k.slots.segment (slot_of place) word (part_of_seat k.slots)
    (records_in k.slots) k.slots.first k.slots.recorded k.slots.sized
    (slot_below place)
    (subst (λ m. IsShown (word_at m (slot_of place)) word (part_of_seat k.slots)) (sym n) shown)

pub found_by : (had : Had UnnamedSegment) (place : Place) (word arena : ℕ)
    → KnowsHand number_in part_of_seat had.hand had.own had.heap.segments
    → arena_of had.policy place.segment ≡ Some arena
    → IsShown (word_of place) word (part_for number_in part_of_seat had place)
    → IsFoundBy (view_in number_in records_in had)
    (record { place = number_of place; word = word })
found_by had place word arena knows is shown = record {
  within =
      let lt = slice_get_within had.policy.segments place.segment arena is in
      let p = place.page_below in
      let i = place.index_below in
      omega arith;
  fits = λ held.
      let o = segment_in number_in had.heap.segments place.segment in
      let some : is_some o ≡ true =
      sym (ap (view_in number_in records_in had).holds (segment_is place)
      ∙ view_holds number_in records_in had.heap.segments place.segment) ∙ held in
      let fits = word_fits had place word o refl some shown in
      let told : standing_told
      (holding_of (map (holding number_in records_in) had.heap.segments)
      (segment_of (number_of place))) (number_of place % 8192)
      ≡ standing_told (option_map (holding number_in records_in) o) (slot_of place) =
      ap (λ s. standing_told (holding_of (map (holding number_in records_in) had.heap.segments) s)
      (number_of place % 8192)) (segment_is place)
      ∙ ap (λ h. standing_told h (number_of place % 8192))
      (holding_in number_in records_in had.heap.segments place.segment)
      ∙ ap (standing_told (option_map (holding number_in records_in) o)) (at_is place) in
      subst (λ st. IsWordOf st word) (sym told) fits;
  seen = past_hand had.hand place word (part_for number_in part_of_seat had place)
      (saw_for number_in part_of_seat had place
      (segment_in number_in had.heap.segments place.segment) refl knows) shown;
}

-- the policy has a segment that is held
arena_by : (had : Had UnnamedSegment) (segment : ℕ)
    (o : Option (Kept UnnamedSegment))
    → AreOf number_in had.policy had.heap.segments
    → segment_in number_in had.heap.segments segment ≡ o → is_some o ≡ true
    → (arena : ℕ) × (arena_of had.policy segment ≡ Some arena)
arena_by had segment None of is some = absurd (cc)
arena_by had segment (Some k) of is some =
    let one = found_one number_in records_in had.heap.segments segment k is in
    (k.arena, ap (arena_of had.policy) (sym one.1) ∙ of.arena k one.0)

pub arena_held : (had : Had UnnamedSegment) (segment : ℕ)
    → AreOf number_in had.policy had.heap.segments
    → is_held number_in had.heap.segments segment ≡ true
    → (arena : ℕ) × (arena_of had.policy segment ≡ Some arena)
arena_held had segment of held =
    arena_by had segment (segment_in number_in had.heap.segments segment) of refl held

-- what is tied is the machine's, for the word that a step of the seat for the place showed
pub machines_shown : (old new : Had UnnamedSegment)
    (place : Place) (word arena : ℕ) (event : Event)
    (answer : Answer) (left : Option Shown) → Whole old
    → arena_of old.policy place.segment ≡ Some arena
    → IsShown (word_of place) word (part_for number_in part_of_seat old place)
    → Ties (view_in number_in records_in old) (shown_at place word) event answer
    (view_in number_in records_in new) left
    → IsTied number_in records_in (shown_at place word) event answer left old new
machines_shown old new place word arena event answer left whole is shown ties = record {
  ties = ties;
  witness = λ usual.
      agrees old (shown_at place word) whole
      (found_by old place word arena whole.known is shown) usual;
}

-- and without a step
pub machines_unseen : (old new : Had UnnamedSegment) (event : Event) (answer : Answer)
    (left : Option Shown) → Whole old
    → Ties (view_in number_in records_in old) None event answer
    (view_in number_in records_in new) left
    → IsTied number_in records_in None event answer left old new
machines_unseen old new event answer left whole ties = record {
  ties = ties;
  witness = λ usual.
      agrees old None whole tt usual;
}

-- whatever may be found
pub machines_any : (old new : Had UnnamedSegment) (shown : Option Shown) (event : Event)
    (answer : Answer) (left : Option Shown) → Whole old
    → MayShow number_in part_of_seat old shown
    → Ties (view_in number_in records_in old) shown event answer
    (view_in number_in records_in new) left
    → IsTied number_in records_in shown event answer left old new
machines_any old new None event answer left whole may ties =
    machines_unseen old new event answer left whole ties
machines_any old new (Some s) event answer left whole may ties = record {
  ties = ties;
  witness = λ usual.
      let arena = some_of (arena_of old.policy may.0.segment) may.1 in
      agrees old (Some s) whole
      (subst (λ n. IsFoundBy (view_in number_in records_in old)
      (record { place = n; word = s.word })) (sym may.2)
      (found_by old may.0 s.word arena.0 whole.known arena.1 may.3)) usual;
}

-- whatever was looked at
pub machines_looked : (old new : Had UnnamedSegment)
    (place : Place) (shown : Option Shown) (event : Event)
    (answer : Answer) → Whole old
    → Looked number_in part_of_seat place shown old new
    → Ties (view_in number_in records_in old) shown event answer
    (view_in number_in records_in new) shown
    → IsTied number_in records_in shown event answer shown old new
machines_looked old new place None event answer whole l ties =
    machines_unseen old new event answer None whole ties
machines_looked old new place (Some s) event answer whole l ties =
    machines_any old new (Some s) event answer (Some s) whole (place, l.0, l.1, l.2.shown) ties

-- what is refused of a segment that isn't held is the machine's
pub machines_away : (old new : Had UnnamedSegment)
    (place : Place) (shown : Option Shown) (event : Event)
    (answer refusal : Answer) → Whole old → new.heap ≡ old.heap → KeepsRest old new
    → Looked number_in part_of_seat place shown old new → answer ≡ refusal
    → Ties (view_in number_in records_in old) shown event refusal
    (view_in number_in records_in old) shown
    → IsTied number_in records_in shown event answer shown old new
machines_away old new place shown event answer refusal whole heap rest looked is ties =
    machines_looked old new place shown event answer whole looked
    (subst (λ (v : View). Ties (view_in number_in records_in old) shown event answer v shown)
    (sym (same_view number_in records_in old new heap rest))
    (subst (λ (a : Answer). Ties (view_in number_in records_in old) shown event a
    (view_in number_in records_in old) shown) (sym is) ties))

-- a look by the heap
module _ (old new : Had UnnamedSegment) (place : Place) (word : ℕ) (whole : Whole old)
    (once : HasNoRepeats (numbers number_in old.heap.segments))
    (held : is_held number_in old.heap.segments place.segment ≡ true)
    (st : Stepped number_in seat_shows
    seat_steps place word word old.heap.segments new.heap.segments)
    (own : new.own ≡ old.own) where
  decided : Decided number_in part_of_seat place word word [] old new
  decided =
      held_decides number_in part_of_seat place word word [] old new once (stepped_as st) own
      (itself word)
      (looked_ends (word_of place) word)

  pub looked_held : Looked number_in part_of_seat place (shown_at place word) old new
  looked_held =
      (ap is_some (arena_held old place.segment whole.of held).1, refl, decided)

  pub machines_held : (event : Event) (answer : Answer)
      → Ties (view_in number_in records_in old) (shown_at place word) event answer
      (view_in number_in records_in new) (shown_at place word)
      → IsTied number_in records_in (shown_at place word) event answer (shown_at place word) old
      new
  machines_held event answer ties =
      let arena = arena_held old place.segment whole.of held in
      machines_shown old new place word arena.0 event answer (shown_at place word) whole arena.1
      decided.shown ties

-- What slot words allow of an allocation, where the worker's part is lent to the segment of the chosen place and
-- is asked the allocation.
use Rattle.std.specs.Prelude.{option_map}
use Rattle.std.proofs.Common.{◌≡◌, ◌≢◌, ℕ, ◌+◌, ◌-◌, ◌*◌, ◌%◌, ◌<◌, ◌==◌, ◌&&◌, nat_lt, not, Bool, true, false, cond, List, [], ◌∷◌}
use Rattle.std.proofs.Common.{Option, Some, None, refl, sym, ap, subst, ◌∙◌, arith, Contains, inl, inr}
use Rattle.std.specs.Arc.{arc_value}
use Rattle.std.proofs.lemmas.Bool.{and_parts, eqb-true, or_cases, true≢false}
use Rattle.hg_size.specs.Sizes.{places_of}
use Rattle.hg_machine.specs.Holders.{is_number}
use Rattle.hg_machine.specs.Policy.{arena_of}
use Rattle.hg_machine.specs.Room.{suits}
use Rattle.hg_place.specs.Places.{page_of, index_of}
use Rattle.hg_place.specs.Standings.{slot_of}
use Rattle.atomic_table.specs.Seated.{TableId}
use Rattle.hg_lists.specs.Repeats.{HasNoRepeats}
use Rattle.hg_place.specs.declared.Actor.{Actor}
use Rattle.hg_place.specs.declared.Handle.{Handle}
use Rattle.hg_place.specs.declared.standing.Standing.{Standing}
use Rattle.hg_place.specs.declared.standing.Standing.TheVariants.{Home, Open}
use Rattle.hg_place.specs.Lives.{live_word}
use Rattle.hg_place.specs.Places.{number_of, segment_of, place_at}
use Rattle.hg_place.specs.Slots.{slot_in}
use Rattle.hg_place.specs.Standings.{is_home, standing_at, standing_generation}
use Rattle.hg_place.proofs.PlaceNumbers.{number_of-place_at}
use Rattle.hg_size.specs.Sizes.{sizes}
use Rattle.hg_machine.specs.declared.Event.{Event}
use Rattle.hg_machine.specs.declared.Event.TheVariants as event
use Rattle.hg_machine.specs.declared.Answer.TheVariants as answer
use Rattle.hg_machine.specs.Policy.{Policy}
use Rattle.hg_machine.specs.Request.{size_of, words_for}
use Rattle.hg_segment.specs.Kept.{Kept}
use Rattle.hg_agreement.specs.Views.{View}
use Rattle.hg_agreement.specs.Agreement.{Ties}
use Rattle.hg_agreement.specs.Changed.{opened}
use Rattle.hg_agreement.specs.Seen.{refusal_in, alloc_in, is_room_in, is_open_to_in, has_open_in}
use Rattle.hg_agreement.specs.Changed.{freed}
use Rattle.hg_agreement.proofs.Allocs.{alloc_is_tied}
use Rattle.hg_agreement.proofs.Frames.{refused_is_tied}
use Rattle.hg_agreement.proofs.Frees.{free_here_is_tied}
use Rattle.hg_machine.specs.declared.Answer.{Answer}
use Rattle.hg_machine.specs.declared.Rule.{Rule}
use Rattle.hg_heap.specs.Freeing.{free_denial}
use Rattle.hg_heap.proofs.FreeCall.{reason_by}
use Rattle.hg_heap.specs.Allowed.{MayAlloc, MayFree}
use Rattle.hg_heap.specs.Choice.{chosen_place}
use Rattle.hg_heap.specs.Held.{Held, segment_in}
use Rattle.hg_heap.specs.Policies.{AreOf}
use Rattle.hg_heap.specs.Queues.{AreQueued}
use Rattle.hg_heap.specs.Settled.{IsSettled}
use Rattle.hg_heap.specs.Ties.{heap_view, shown_at}
use Rattle.hg_heap.proofs.AllocCall.{same_verdict}
use Rattle.hg_heap.proofs.AllocRooms.{chosen_room}
use Rattle.std.specs.List.{position_or_len}
use Rattle.hg_heap.specs.Held.{is_of}
use Rattle.hg_heap.proofs.FoundHoldings.{held_found, standing_found}
use Rattle.hg_heap.proofs.Founds.{Found, at_is, passes}
use Rattle.hg_heap.proofs.ViewCharges.{view_charge}
use Rattle.hg_run_table.specs.declared.segment.RunSegment.{RunSegment}
use Rattle.hg_run_table.specs.declared.table.RunSeat.{RunSeat}
use Rattle.hg_run_table.specs.Asked.{MayLeave}
use Rattle.hg_run_table.specs.Segments.{SeatMayLeave}
use Rattle.hg_run_table.specs.Segments.{place_at as number_at}
use Rattle.hg_run_table.proofs.Answering.{may_leave}
use Rattle.hg_run_table.proofs.AnswersAre.{ties_may_answer}
use Rattle.hg_run_worker.specs.AtWork.{number_in, records_in, shows_in, steps_in, numbers_in, hand_place, hand_generation}
use Rattle.hg_run_worker.specs.Lent.{IsLent}
use Rattle.hg_run_worker.proofs.Course.{lent_asks}
use Rattle.hg_run_worker.proofs.SlotsLent.{at_position, view_stays}

-- the steps that a segment's seat allows
abbrev pub allows_in : RunSegment → ℕ → ℕ → ℕ → Type 0
allows_in s at found left = SeatMayLeave (arc_value s.table).table.shared.key s.segment s.seat at found left

home_is : (s : Standing) → is_home s ≡ true → s ≡ Home (standing_generation s)
home_is (Home n) e = refl
home_is (Open n o) e = absurd (cc)

-- a place that is open to a block is home
fifth : (a b c d e f : Bool) → a && (b && (c && (d && (e && f)))) ≡ true → e ≡ true
fifth true true true true e f h = (and_parts e f h).0
fifth true true true false e f h = absurd (true≢false (sym h))
fifth true true false d e f h = absurd (true≢false (sym h))
fifth true false c d e f h = absurd (true≢false (sym h))
fifth false b c d e f h = absurd (true≢false (sym h))

open_home : (view : View) (arena size : ℕ) (wanted : Option ℕ) (place : ℕ)
    → is_open_to_in view arena size wanted place ≡ true → is_home (view.standing place) ≡ true
open_home view arena size wanted place e =
    fifth (view.holds (segment_of place)) (is_number arena (arena_of view.policy (segment_of place)))
    (suits view.class size wanted (page_of place)) (nat_lt (index_of place) (places_of size))
    (is_home (view.standing place))
    (not (standing_generation (view.standing place) == view.policy.max_generation)) e

room_home : (view : View) (arena size place : ℕ) → is_room_in view arena size place ≡ true
    → is_home (view.standing place) ≡ true
room_home view arena size place e =
    elim
    (or_cases (is_open_to_in view arena size (Some size) place)
    (not (has_open_in view arena size (Some size)) && is_open_to_in view arena size None place) e) [
      | inl t ↦ open_home view arena size (Some size) place t
      | inr t ↦
          open_home view arena size None place
          (and_parts (not (has_open_in view arena size (Some size)))
          (is_open_to_in view arena size None place) t).1
    ]

module _ {id : TableId} {policy : Policy} {number : ℕ} {hand : Option Handle}
    {asked : List (List Event)} {xs ys : List (Kept RunSegment)} {call : RunSeat} {segment : ℕ}
    (l : IsLent id policy number hand asked segment xs call ys) {actor : Actor} {arena bytes : ℕ}
    (is_asked : asked ≡ (event.Alloc actor arena bytes ∷ []) ∷ []) (below : number < policy.workers)
    {queues : List (List ℕ)} (of : AreOf number_in policy ys) (once : HasNoRepeats (numbers_in ys))
    (settled : (k : Kept RunSegment) → Contains ys k → IsSettled records_in k)
    (queued : AreQueued number_in (record { segments = ys; queues = queues }))
    (sized : Contains sizes (size_of bytes))
    (chosen_in :
    option_map segment_of
    (chosen_place number_in records_in (record { segments = ys; queues = queues }) arena (size_of bytes))
    ≡ Some segment) where
  abbrev held : Held RunSegment
  held = record { segments = ys; queues = queues }

  abbrev view : View
  view = heap_view number_in records_in policy number (hand_place hand) (hand_generation hand) ys

  pub may_alloc : MayAlloc shows_in allows_in number_in records_in policy actor.0 arena bytes held
  may_alloc fits place k chosen here word shown =
      let both : Some (segment_of place) ≡ Some segment =
      sym (ap (option_map segment_of) chosen) ∙ chosen_in in
      let inside : segment_of place ≡ segment = cc in
      let there = subst (λ n. segment_in number_in ys n ≡ Some k) inside here in
      let its = passes number_in ys segment k there in
      let small = k.slots.segment_below in
      let at : number_of (place_at place) ≡ place =
      number_of-place_at place (omega (arith, inside, its, small)) in
      let room =
      chosen_room number_in records_in (λ s. s.segment_below) policy number (hand_place hand)
      (hand_generation hand) held queued settled of arena (size_of bytes) sized place chosen in
      let where_it_is : (place_at place).segment ≡ segment =
      (let a = (place_at place).page_below in
      let b = (place_at place).index_below in
      omega (arith, at, a, b, inside)) in
      let found : Found number_in ys (place_at place).segment (position_or_len (is_of number_in segment) ys) k =
      subst (λ n. Found number_in ys n (position_or_len (is_of number_in segment) ys) k) (sym where_it_is)
      (record { at = at_position ys segment k there; first = refl }) in
      let slot : slot_of (place_at place) ≡ place % 8192 =
      sym (at_is (place_at place)) ∙ ap (λ n. n % 8192) at in
      let recorded : view.standing place ≡ standing_at (records_in k.slots) (place % 8192) =
      ap view.standing (sym at)
      ∙ standing_found number_in records_in ys (place_at place) (position_or_len (is_of number_in segment) ys)
      k found
      ∙ ap (standing_at (records_in k.slots)) slot in
      let home = room_home view arena (size_of bytes) place room.room in
      let generation = standing_generation (standing_at (records_in k.slots) (place % 8192)) in
      let stands : view.standing place ≡ Home generation =
      home_is (view.standing place) home ∙ ap (λ s. Home (standing_generation s)) recorded in
      let handle : Handle =
      record { place = place_at place; generation = generation + 1; given_out = omega arith } in
      let none : refusal_in view (slot_in word) (event.Alloc actor arena bytes) ≡ None =
      ap (alloc_in view arena)
      (same_verdict policy actor.0 arena (words_for bytes) _ _
      (λ t.
      view_charge number_in records_in (λ s. s.sized) policy number (hand_place hand)
      (hand_generation hand) ys actor.0 once settled of)
      ∙ fits)
      ∙ ap (λ b. cond b None (Some answer.NoRoom)) room.some in
      let live = live_word (generation + 1) actor.0 in
      let tied =
      alloc_is_tied view (Some (record { place = number_of (place_at place); word = word })) actor arena bytes
      handle below none
      (subst (λ n. is_room_in view arena (size_of bytes) n ≡ true) (sym at) room.room)
      (ap view.standing at ∙ stands ∙ ap Home (let less : generation ≡ generation + 1 - 1 = omega arith in less)) in
      let after = opened view (number_of (place_at place)) (generation + 1) actor.0 (size_of bytes) in
      let same : number_of (place_at place) ≡ number_at k.slots.segment (place % 8192) =
      at ∙ (let split : place ≡ k.slots.segment * 8192 + place % 8192 = omega (arith, inside, its) in split) in
      subst
      (λ n. MayLeave (arc_value k.slots.table).table.shared.key n word live k.slots.seat.seat.me.0.run) same
      (may_leave _ (number_of (place_at place)) word live k.slots.seat.seat.me.0.run
      (ties_may_answer _ (number_of (place_at place)) word live k.slots.seat.seat.me.0.run _ _ _ after
      (event.Alloc actor arena bytes) (answer.Block handle) [] (lent_asks l is_asked k there) refl
      (λ other t. sym (eqb-true (number_of (place_at place)) other t))
      (subst
      (λ (v : View).
      Ties v (Some (record { place = number_of (place_at place); word = word }))
      (event.Alloc actor arena bytes) (answer.Block handle) after
      (Some (record { place = number_of (place_at place); word = live })))
      (view_stays l.once l.lent policy number (hand_place hand) (hand_generation hand)) tied)))

-- and of a free of a block of the segment
module _ {id : TableId} {policy : Policy} {number : ℕ} {hand : Option Handle}
    {asked : List (List Event)} {xs ys : List (Kept RunSegment)} {call : RunSeat} {actor : Actor}
    {handle : Handle} (l : IsLent id policy number hand asked handle.place.segment xs call ys)
    (is_asked : asked ≡ (event.Free actor handle ∷ []) ∷ []) (below : number < policy.workers) where
  abbrev free_view : View
  free_view = heap_view number_in records_in policy number (hand_place hand) (hand_generation hand) ys

  -- what is tied in the view of the lent segments may be answered
  free_may : (k : Kept RunSegment) → segment_in number_in ys handle.place.segment ≡ Some k
      → (word left : ℕ) (a : Answer) (after : View)
      → Ties free_view (shown_at handle.place word) (event.Free actor handle) a after
      (shown_at handle.place left)
      → allows_in k.slots (slot_of handle.place) word left
  free_may k here word left a after tied =
      let its = passes number_in ys handle.place.segment k here in
      let same : number_of handle.place ≡ number_at k.slots.segment (slot_of handle.place) =
      omega (arith, its) in
      subst
      (λ n. MayLeave (arc_value k.slots.table).table.shared.key n word left k.slots.seat.seat.me.0.run) same
      (may_leave _ (number_of handle.place) word left k.slots.seat.seat.me.0.run
      (ties_may_answer _ (number_of handle.place) word left k.slots.seat.seat.me.0.run _ _ _ after
      (event.Free actor handle) a [] (lent_asks l is_asked k here) refl
      (λ other t. sym (eqb-true (number_of handle.place) other t))
      (subst
      (λ (v : View).
      Ties v (shown_at handle.place word) (event.Free actor handle) a after (shown_at handle.place left))
      (view_stays l.once l.lent policy number (hand_place hand) (hand_generation hand)) tied)))

  free_denied : (k : Kept RunSegment) → segment_in number_in ys handle.place.segment ≡ Some k
      → (word : ℕ) (o : Option Rule) → free_denial policy actor.0 handle word ≡ o → o ≢ None
      → allows_in k.slots (slot_of handle.place) word word
  free_denied k here word None e some = absurd (some refl)
  free_denied k here word (Some rule) e some =
      free_may k here word word (answer.Denied rule) free_view
      (refused_is_tied free_view (shown_at handle.place word) (event.Free actor handle) (answer.Denied rule)
      below refl
      (ap (λ (o : Option Rule). reason_by number_in records_in shows_in steps_in policy ys 0 actor handle o (free_view.holds handle.place.segment) (hand_place hand)) e))

  pub may_free : MayFree shows_in allows_in number_in policy actor.0 handle ys
  may_free k here = record {
    denied = λ word shown some.
        free_denied k here word (free_denial policy actor.0 handle word) refl some;
    served = λ word shown none.
        let found : Found number_in ys handle.place.segment (position_or_len (is_of number_in handle.place.segment) ys) k =
        record { at = at_position ys handle.place.segment k here; first = refl } in
        let held : free_view.holds handle.place.segment ≡ true =
        held_found number_in records_in ys handle.place (position_or_len (is_of number_in handle.place.segment) ys) k
        found in
        free_may k here word (word - 1) answer.Done
        (freed free_view (number_of handle.place) handle.generation)
        (free_here_is_tied free_view word actor handle below
        (ap (λ (o : Option Rule). reason_by number_in records_in shows_in steps_in policy ys 0 actor handle o (free_view.holds handle.place.segment) (hand_place hand)) none
        ∙ ap (λ (b : Bool). reason_by number_in records_in shows_in steps_in policy ys 0 actor handle None b (hand_place hand)) held)
        held);
  }

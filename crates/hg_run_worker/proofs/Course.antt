-- How a call over the table goes: the worker's part is lent to a segment, the heap makes a step there, and the
-- part comes back with the call in its log.
use Rattle.std.proofs.Common.{◌≡◌, ◌≢◌, ℕ, ◌<◌, ◌≤◌, inl, inr, true, List, [], ◌∷◌, ◌++◌}
use Rattle.std.proofs.Common.{length, Option, Some, refl, sym, ap, subst, ◌∙◌, arith}
use Rattle.std.proofs.Common.{slice_get, is_some}
use Rattle.atomic_table.specs.Seated.{TableId}
use Rattle.hg_lists.specs.Repeats.{HasNoRepeats}
use Rattle.hg_place.specs.declared.Handle.{Handle}
use Rattle.hg_place.specs.declared.Place.{Place}
use Rattle.hg_place.specs.Places.{number_of}
use Rattle.hg_place.specs.Standings.{slot_of}
use Rattle.hg_machine.specs.declared.Event.{Event}
use Rattle.hg_machine.specs.declared.Answer.{Answer}
use Rattle.hg_machine.specs.Policy.{Policy}
use Rattle.hg_segment.specs.Kept.{Kept}
use Rattle.hg_agreement.specs.Views.{View}
use Rattle.hg_machine.specs.Shown.{IsShownBy}
use Rattle.hg_machine.specs.State.{State, record_at}
use Rattle.hg_agreement.specs.Agreement.{Agrees, Ties}
use Rattle.hg_run_table.specs.Found.{IsFound}
use Rattle.hg_run_worker.proofs.Agreeing.{shows_too}
use Rattle.hg_heap.specs.Held.{Kind, kind_of, kinds, segment_in, is_held}
use Rattle.hg_heap.specs.Keeping.{KeepsAll}
use Rattle.hg_heap.specs.SlotsChanged.{SlotsChanged}
use Rattle.hg_heap.specs.Ties.{Stepped, shown_at}
use Rattle.hg_heap.proofs.Allotting.{found_first}
use Rattle.hg_heap.proofs.Founds.{Found, found_is, found_after, map_same, numbers_same}
use Rattle.hg_roles.specs.Roles.{Call, of_worker, of_segment}
use Rattle.hg_run_table.specs.declared.part.Part.{Part}
use Rattle.hg_run_table.specs.declared.segment.RunSegment.{RunSegment}
use Rattle.hg_run_table.specs.declared.table.RunSeat.{RunSeat}
use Rattle.hg_run_table.specs.AnswerLaws.{AsksOne}
use Rattle.hg_run_table.specs.Asked.{IsWorkerAsked, IsAnswered}
use Rattle.hg_run_table.specs.Calls.{log_in}
use Rattle.hg_run_table.specs.Seated.{HaveRoles}
use Rattle.hg_run_table.specs.Segments.{HasLent, place_at}
use Rattle.hg_run_table.proofs.Answering.{has_answered}
use Rattle.hg_run_table.proofs.AnswersAre.{who_asks, answers_are_the_calls}
use Rattle.hg_run_table.proofs.LentSeats.{asks_behind}
use Rattle.hg_run_worker.specs.AtWork.{IsAtWork, IsSeated, number_in, records_in, worker_view, hand_place, hand_generation}
use Rattle.hg_run_worker.specs.AtWork.{shows_in, steps_in, numbers_in}
use Rattle.hg_run_worker.specs.Lent.{HasComeBack, IsLent, IsTiedStep}
use Rattle.hg_run_worker.proofs.SlotsLent.{all_stays, came_back, came_logged, changed_one, found_there, get_set, kinds_stay, numbers_stay, one_held, view_stays}

-- a worker's part is lent to a segment that it holds, and is asked one event
module _ {id : TableId} {policy : Policy} {number : ℕ} {hand : Option Handle}
    {asked : List (List Event)} {xs ys : List (Kept RunSegment)} {call : RunSeat} {segment : ℕ}
    (l : IsLent id policy number hand asked segment xs call ys) {e : Event}
    (is_asked : asked ≡ (e ∷ []) ∷ []) where
  abbrev once : HasNoRepeats (numbers_in xs)
  once = l.once

  abbrev lent : SlotsChanged number_in records_in shows_in segment (λ s t. HasLent s.seat l.what t.seat) xs ys
  lent = l.lent

  abbrev pub view : View
  view = worker_view policy number hand xs

  -- the segment's seat asks it
  pub lent_asks : (k : Kept RunSegment) → segment_in number_in ys segment ≡ Some k
      → AsksOne k.slots.seat.seat.me.0.run (of_segment segment ∷ of_worker view (log_in call) ∷ []) view
      (log_in call) e []
  lent_asks k there =
      let is : changed_one once lent ≡ k =
      one_held ys segment (changed_one once lent) k
      (found_is number_in ys segment lent.found (changed_one once lent) (found_there once lent)) there in
      let seated = l.work.seated lent.found lent.one lent.at in
      let part =
      subst (λ n. HaveRoles lent.one.slots.seat.seat.me.0.run (of_segment n ∷ [])) lent.numbered
      seated.part in
      subst
      (λ (m : Kept RunSegment).
      AsksOne m.slots.seat.seat.me.0.run (of_segment segment ∷ of_worker view (log_in call) ∷ []) view
      (log_in call) e [])
      is
      (subst
      (λ (run : List Part).
      AsksOne run (of_segment segment ∷ of_worker view (log_in call) ∷ []) view (log_in call) e [])
      (sym lent.changed.run)
      (asks_behind lent.one.slots.seat.seat.me.0.run l.what.seat.me.0.run segment view (log_in call) e part
      l.has
      (subst (λ events. IsWorkerAsked number events l.what.seat.me.0.run) is_asked l.asks)))

  lent_same : lent.slots.seat.seat.table_id ≡ id
  lent_same = lent.changed.same ∙ (l.work.seated lent.found lent.one lent.at).same

  others_lent : (at : ℕ) (k : Kept RunSegment) → at ≢ lent.found → slice_get ys at ≡ Some k
      → IsSeated id k.slots
  others_lent at k far here =
      elim
      (get_set xs lent.found at (changed_one once lent) k
      (subst (λ (z : List (Kept RunSegment)). slice_get z at ≡ Some k) lent.now here)) [
        | inl is ↦ absurd (far is.0)
        | inr out ↦ l.work.seated at k out.1
      ]

  -- the heap makes a step there, and the call is tied
  module _ {zs : List (Kept RunSegment)} {place : Place} {word left : ℕ} {a : Answer}
      (s : IsTiedStep policy segment place word left e a ys zs) (below : number < policy.workers) where
    abbrev stepped : Stepped number_in shows_in steps_in place word left ys zs
    stepped = s.stepped

    abbrev pub after : View
    after = worker_view policy number hand zs

    abbrev pub longer : List Call
    longer = log_in call ++ (e, a) ∷ []

    once_lent : HasNoRepeats (numbers_in ys)
    once_lent = subst HasNoRepeats (sym (numbers_stay once lent)) once

    stepped_before : Found number_in ys segment stepped.found stepped.before
    stepped_before = record {
      at = stepped.at;
      first = found_first number_in records_in ys stepped.found stepped.before segment once_lent stepped.at
          (stepped.segment ∙ s.inside);
    }

    number_after : number_in stepped.after.slots ≡ number_in stepped.before.slots
    number_after = ap (λ (k : Kind). k.number) stepped.kind

    stepped_after : Found number_in zs segment stepped.found stepped.after
    stepped_after =
        subst (λ (z : List (Kept RunSegment)). Found number_in z segment stepped.found stepped.after)
        (sym stepped.now)
        (found_after number_in ys segment stepped.found stepped.before stepped.after stepped_before
        number_after)

    once_stepped : HasNoRepeats (numbers_in zs)
    once_stepped =
        subst HasNoRepeats
        (sym
        (ap numbers_in stepped.now
        ∙ numbers_same number_in ys stepped.found stepped.before stepped.after stepped.at number_after))
        once_lent

    asks : AsksOne stepped.before.slots.seat.seat.me.0.run
        (of_segment segment ∷ of_worker view (log_in call) ∷ []) view (log_in call) e []
    asks =
        lent_asks stepped.before
        (found_is number_in ys segment stepped.found stepped.before stepped_before)

    same_place_number : place_at stepped.before.slots.segment (slot_of place) ≡ number_of place
    same_place_number = let there = stepped.segment in omega (arith, there)

    was : IsAnswered (number_of place) word left stepped.before.slots.seat.seat.me.0.run
        stepped.after.slots.seat.seat.me.0.run
    was =
        subst
        (λ n.
        IsAnswered n word left stepped.before.slots.seat.seat.me.0.run
        stepped.after.slots.seat.seat.me.0.run)
        same_place_number
        (has_answered (place_at stepped.before.slots.segment (slot_of place)) word left
        stepped.before.slots.seat.seat.me.0.run stepped.after.slots.seat.seat.me.0.run (who_asks asks).0
        stepped.stepped.answered)

    -- some state agreed with what the worker had, and showed the word
    pub met : (m : State) × Agrees m view (shown_at place word)
    unfolding IsFound
    met =
        let found = stepped.stepped.agreed in (
          found.agreed.state,
          shows_too found.agreed.state view (number_of place) word
              (found.agreed.agrees (of_segment segment ∷ of_worker view (log_in call) ∷ []) asks.has 1
              (of_worker view (log_in call)) refl)
              (subst (λ (n : ℕ). IsShownBy (record_at found.agreed.state n) word) same_place_number
              found.shown),
        )

    pub tied : Ties view (shown_at place word) e a after (shown_at place left)
    tied =
        subst (λ (v : View). Ties v (shown_at place word) e a after (shown_at place left))
        (view_stays once lent policy number (hand_place hand) (hand_generation hand))
        (s.ties number (hand_place hand) (hand_generation hand) below)

    -- so it is the call that is logged
    pub answered_at : HaveRoles stepped.after.slots.seat.seat.me.0.run
        (of_segment segment ∷ of_worker after longer ∷ [])
    answered_at =
        (answers_are_the_calls (number_of place) word left stepped.before.slots.seat.seat.me.0.run
        stepped.after.slots.seat.seat.me.0.run (of_segment segment ∷ of_worker view (log_in call) ∷ [])
        (log_in call) view after e a [] asks refl was s.alone tied).has

    pub held_still : is_held number_in zs segment ≡ true
    held_still = ap is_some (found_is number_in zs segment stepped.found stepped.after stepped_after)

    pub has_loan : (one : Kept RunSegment) → segment_in number_in zs segment ≡ Some one
        → 2 ≤ length one.slots.seat.seat.me.0.run
    has_loan one there =
        let is : stepped.after ≡ one =
        one_held zs segment stepped.after one
        (found_is number_in zs segment stepped.found stepped.after stepped_after) there in
        let count = answered_at.count in
        subst (λ (k : Kept RunSegment). 2 ≤ length k.slots.seat.seat.me.0.run) is (omega (arith, count))

    after_same : stepped.after.slots.seat.seat.table_id ≡ id
    after_same =
        let is : changed_one once lent ≡ stepped.before =
        one_held ys segment (changed_one once lent) stepped.before
        (found_is number_in ys segment lent.found (changed_one once lent) (found_there once lent))
        (found_is number_in ys segment stepped.found stepped.before stepped_before) in
        stepped.stepped.same ∙ sym (ap (λ (k : Kept RunSegment). k.slots.seat.seat.table_id) is)
        ∙ lent_same

    -- each other segment's seat is as it was
    others_stepped : (at : ℕ) (k : Kept RunSegment) → at ≢ stepped.found → slice_get zs at ≡ Some k
        → IsSeated id k.slots
    others_stepped at k far here =
        elim
        (get_set ys stepped.found at stepped.after k
        (subst (λ (z : List (Kept RunSegment)). slice_get z at ≡ Some k) stepped.now here)) [
          | inl is ↦ absurd (far is.0)
          | inr out ↦
              others_lent at k
              (λ there. far (there ∙ (found_there once lent).first ∙ sym stepped_before.first)) out.1
        ]

    -- and the worker's part comes back
    module _ {ws : List (Kept RunSegment)} {back : RunSeat} (given : HasComeBack segment zs back ws) where
      pub logged : log_in back ≡ longer
      logged =
          came_logged policy number hand once_stepped stepped_after after_same answered_at others_stepped given

      pub at_work : IsAtWork id policy number hand ws back
      at_work = came_back policy number hand once_stepped stepped_after after_same answered_at others_stepped given

      -- numbers, arenas and greatest generations stay
      pub course_kinds : kinds number_in ws ≡ kinds number_in xs
      course_kinds =
          kinds_stay once_stepped given
          ∙ (ap (kinds number_in) stepped.now
          ∙ map_same (kind_of number_in) ys stepped.found stepped.before stepped.after stepped.at stepped.kind)
          ∙ kinds_stay once lent

      -- all else of each segment stays
      pub back_keeps : KeepsAll number_in records_in zs ws
      back_keeps = all_stays once_stepped given

      -- what the worker has then is what the step left
      pub view_back : worker_view policy number hand ws ≡ after
      view_back = view_stays once_stepped given policy number (hand_place hand) (hand_generation hand)

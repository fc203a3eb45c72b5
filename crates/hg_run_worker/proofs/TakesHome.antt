-- A Take: the worker's part, which has all places of the list at home, is lent to their segment, the heap takes them
-- in, and the part comes back.
use Rattle.std.proofs.Common.{◌≡◌, ◌≢◌, ℕ, zero, suc, ◌%◌, ◌<◌, ◌≤◌, ◌==◌, ◌&&◌, Bool, true, false, not, if◌then◌else◌}
use Rattle.std.proofs.Common.{List, [], ◌∷◌, length, map, Option, Some, None, inl, inr, is_some, find}
use Rattle.std.proofs.Common.{refl, sym, ap, subst, ◌∙◌, arith, slice_get, option_map}
use Rattle.std.specs.List.{list_any}
use Rattle.std.proofs.lemmas.Bool.{true≢false, cases_Bool, and_right}
use Rattle.atomic_table.specs.Seated.{TableId}
use Rattle.hg_lists.specs.Repeats as repeats
use Rattle.hg_lists.proofs.RepeatsLemmas.{Contains-in, in_contains}
use Rattle.hg_place.specs.declared.Handle.{Handle}
use Rattle.hg_place.specs.declared.standing.Standing.{Standing}
use Rattle.hg_place.specs.declared.standing.Standing.TheVariants.{Home}
use Rattle.hg_place.specs.declared.geometry.TheConstants.{SEGMENT_PLACES}
use Rattle.hg_place.specs.Places.{segment_of}
use Rattle.hg_place.specs.Standings.{standing_at, is_home, standing_generation}
use Rattle.hg_place.specs.Words.{bit_of}
use Rattle.hg_machine.specs.Life.{Life, home, live, parted, is_parted}
use Rattle.hg_machine.specs.Holders.{is_number}
use Rattle.hg_machine.specs.Policy.{Policy}
use Rattle.hg_machine.specs.State.{State, record_at}
use Rattle.hg_machine.specs.Sweeps.{is_sent_to}
use Rattle.hg_agreement.specs.Agreement.{Agrees, standing_by}
use Rattle.hg_agreement.specs.Changed.{IsLike}
use Rattle.hg_agreement.specs.Holdings.{Holding, standing_told}
use Rattle.hg_agreement.specs.Views.{View}
use Rattle.hg_agreement.proofs.Frames.{like_agrees}
use Rattle.hg_history.specs.Service.{IsIn}
use Rattle.hg_segment.specs.Blocks.{KeepsBlocks}
use Rattle.hg_segment.specs.Kept.{Kept}
use Rattle.hg_remote.specs.Order.{drained}
use Rattle.hg_remote.specs.Remote.{Remote, IsRight, contents}
use Rattle.hg_remote.proofs.OrderLemmas.{order_all}
use Rattle.hg_heap.specs.Held.{Held, is_held, kinds, segment_in}
use Rattle.hg_heap.specs.Homecoming.{AreHomeAgain, HaveComeHome}
use Rattle.hg_heap.specs.SlotsChanged.{SlotsChanged}
use Rattle.hg_heap.specs.Taking.{Takes}
use Rattle.hg_heap.specs.Ties.{holding}
use Rattle.hg_heap.proofs.Allotting.{found_first}
use Rattle.hg_heap.proofs.Founds.{Found, found_is}
use Rattle.hg_heap.proofs.PageChanged.{other_found}
use Rattle.hg_heap.proofs.ViewRoom.{holding_in, view_holds}
use Rattle.hg_roles.specs.Joined.{come_home}
use Rattle.hg_roles.specs.Roles.{Call, RemoteAgrees, Role, of_segment, of_worker}
use Rattle.hg_run_table.specs.declared.part.Part.{Part}
use Rattle.hg_run_table.specs.declared.part.PartName.TheVariants.{Worker}
use Rattle.hg_run_table.specs.declared.segment.RunSegment.{RunSegment}
use Rattle.hg_run_table.specs.declared.table.RunSeat.{RunSeat}
use Rattle.hg_run_table.specs.Asked.{is_asked}
use Rattle.hg_run_table.specs.Calls.{IsWorkers, log_in}
use Rattle.hg_run_table.specs.Seated.{HasRole, HaveRoles}
use Rattle.hg_run_table.specs.Segments.{place_at}
use Rattle.hg_run_table.proofs.LentSeats.{quiet_segment}
use Rattle.hg_run_table.proofs.RolesOfViews.{joined_have}
use Rattle.hg_run_worker.specs.AtWork.{AreSeated, IsAtWork, IsSeated, number_in, numbers_in, records_in, shows_in, steps_in}
use Rattle.hg_run_worker.specs.AtWork.{hand_generation, hand_place, worker_view}
use Rattle.hg_run_worker.specs.Lent.{HasComeBack, IsLentQuietly}
use Rattle.hg_run_worker.specs.Lists.{numbers_of}
use Rattle.hg_run_worker.proofs.Quietly.{quiet_append}
use Rattle.hg_run_worker.proofs.Sending.{counted, on_map}
use Rattle.hg_run_worker.proofs.SlotsLent.{at_position, came_back, came_logged, changed_one, found_before, found_there}
use Rattle.hg_run_worker.proofs.SlotsLent.{kinds_stay, numbers_stay, one_held, view_stays}
use Rattle.hg_run_worker.proofs.TakenViews.{any_sent, like_home}
use Rattle.hg_run_worker.proofs.TakesAll.{HaveAllCome, IsTaking, all_taken}
use mathlib.Core.Option.{some-injective, some-ne-none}

-- a parted place is open
parted_open : (generation : ℕ) (life : Life) → is_parted life ≡ true
    → is_home (standing_by generation life) ≡ false
parted_open generation home is = absurd (true≢false (sym is))
parted_open generation (live owner words) is = absurd (true≢false (sym is))
parted_open generation (parted owner words) is = refl

sent_parted : (m : State) (segment place : ℕ) → is_sent_to m segment place ≡ true
    → is_parted (record_at m place).life ≡ true
sent_parted m segment place is =
    elim (cases_Bool (is_parted (record_at m place).life)) [
      | inl t ↦ t
      | inr f ↦
          absurd
          (true≢false
          (sym is ∙ and_right (segment_of place == segment) _ (ap (λ (b : Bool). b && not (list_any (is_number place) m.hands)) f)))
    ]

-- a part that has what one worker's has, has what another's has that is like it
role_like : (part : Part) (one other : View) (log : List Call) → IsLike one other
    → HasRole part (of_worker one log) → HasRole part (of_worker other log)
role_like part one other log like has = record {
  named = ap Worker like.worker ∙ has.named;
  log = has.log;
  agrees = like_agrees part.witness one other None like has.agrees;
}

second_like : (run : List Part) (segment : ℕ) (one other : View) (log : List Call) → IsLike one other
    → HaveRoles run (of_segment segment ∷ of_worker one log ∷ [])
    → HaveRoles run (of_segment segment ∷ of_worker other log ∷ [])
second_like run segment one other log like has = record { count = has.count; each = each }
  where
    each : (j : ℕ) (part : Part) (role : Role) → IsIn run j part
        → IsIn (of_segment segment ∷ of_worker other log ∷ []) j role → HasRole part role
    each zero part role at is = has.each 0 part role at is
    each (suc zero) part role at is =
        subst (HasRole part) (some-injective (of_worker other log) role is)
        (role_like part one other log like (has.each 1 part (of_worker one log) at refl))
    each (suc (suc j)) part role at is = absurd (some-ne-none role (sym is))

-- the same comes home where slot words are others that have the same records
same_home : (sent : List ℕ) (count : ℕ) (before after : Kept RunSegment) (was is : RunSegment)
    → records_in was ≡ records_in before.slots → records_in is ≡ records_in after.slots
    → AreHomeAgain records_in sent count before after
    → AreHomeAgain records_in sent count (record before { slots = was }) (record after { slots = is })
same_home sent count before after was is old new again = record {
  came = again.came;
  once = again.once;
  many = again.many;
  each = λ place there.
      let e = again.each place there in
      record {
        was_sent = e.was_sent;
        was_open = ap (λ (rs : List Standing). is_home (standing_at rs place)) old ∙ e.was_open;
        home =
            ap (λ (rs : List Standing). standing_at rs place) new
            ∙ e.home
            ∙ ap (λ (rs : List Standing). Home (standing_generation (standing_at rs place))) (sym old);
      };
  others = λ place out.
      ap (λ (rs : List Standing). standing_at rs place) new
      ∙ again.others place out
      ∙ ap (λ (rs : List Standing). standing_at rs place) (sym old);
  fixed = record {
    arena = again.fixed.arena;
    greatest = again.fixed.greatest;
    classes = again.fixed.classes;
  };
  blocks =
      subst (λ (rs : List Standing). KeepsBlocks rs before.classes before.words after.words) (sym new)
      again.blocks;
}

-- the other segments stay where the slot words of one have become others
others_stay : {change : RunSegment → RunSegment → Type 0} {segment : ℕ} {xs ys : List (Kept RunSegment)}
    → SlotsChanged number_in records_in shows_in segment change xs ys → (other : ℕ) → other ≢ segment
    → segment_in number_in ys other ≡ segment_in number_in xs other
others_stay {xs = xs} c other ne =
    ap (λ (segments : List (Kept RunSegment)). segment_in number_in segments other) c.now
    ∙ other_found number_in xs c.found other c.one (record c.one { slots = c.slots }) c.at c.same_number
    (λ e. ne (e ∙ c.numbered))

-- the worker holds the list's segment, some state agreed with what it had and with the list, and the worker's part, for
-- which the Take is made, is lent to the segment
pub record IsTake (id : TableId) (policy : Policy) (number : ℕ) (hand : Option Handle) (segment : ℕ) (call : RunSeat)
    (remote : Remote) (xs ys : List (Kept RunSegment)) : Type 0 where
  pub held : is_held number_in xs segment ≡ true
  pub once : repeats.HasNoRepeats (numbers_in xs)
  pub seated : AreSeated id xs
  pub right : IsRight remote
  pub state : State
  pub agrees : Agrees state (worker_view policy number hand xs) None
  pub sent : RemoteAgrees state segment (numbers_of segment remote)
  pub lent : IsLentQuietly segment xs call ys
  pub worker :
      IsWorkers call (come_home (worker_view policy number hand xs) (numbers_of segment remote))

module _ {id : TableId} {policy : Policy} {number : ℕ} {hand : Option Handle} {segment : ℕ} {call : RunSeat}
    {remote : Remote} {xs ys : List (Kept RunSegment)}
    (take : IsTake id policy number hand segment call remote xs ys) where
  abbrev once : repeats.HasNoRepeats (numbers_in xs)
  once = take.once

  abbrev m : State
  m = take.state

  abbrev lent : IsLentQuietly segment xs call ys
  lent = take.lent

  abbrev was : View
  was = worker_view policy number hand xs

  abbrev came : View
  came = come_home was (numbers_of segment remote)

  abbrev had : Kept RunSegment
  had = lent.lent.one

  abbrev has_it : Kept RunSegment
  has_it = changed_one once lent.lent

  pub holds : came.holds segment ≡ true
  holds = view_holds number_in records_in xs segment ∙ take.held

  -- the places of the list, in the order in which they are drained
  on_list : (place : ℕ) → repeats.IsIn place (drained remote) → repeats.IsIn place (contents remote)
  on_list place there =
      in_contains place (contents remote)
      (((order_all remote take.right).same place).0 (Contains-in place (drained remote) there))

  on_order : (place : ℕ) → repeats.IsIn place (contents remote) → repeats.IsIn place (drained remote)
  on_order place there =
      in_contains place (drained remote)
      (((order_all remote take.right).same place).1 (Contains-in place (contents remote) there))

  low : (place : ℕ) → repeats.IsIn place (contents remote) → place < SEGMENT_PLACES
  low place there = take.right.below place (Contains-in place (contents remote) there)

  homes : (place : ℕ) → repeats.IsIn place (drained remote)
      → (place < SEGMENT_PLACES) × (is_home (came.standing (place_at segment place)) ≡ true)
  homes place there = (
    low place (on_list place there),
    ap
        (λ (b : Bool).
        is_home
        (if b
        then Home (standing_generation (was.standing (place_at segment place)))
        else was.standing (place_at segment place)))
        (any_sent (place_at segment) place (contents remote) (on_list place there)),
  )

  -- each of them is open before
  opened : (place : ℕ) → repeats.IsIn place (drained remote)
      → is_home (standing_at (records_in has_it.slots) place) ≡ false
  opened place there =
      let on = on_list place there in
      let below = low place on in
      let at : ℕ = place_at segment place in
      let of : segment_of at ≡ segment = omega (arith, below) in
      let slot : at % SEGMENT_PLACES ≡ place = omega (arith, below) in
      let sent_there : is_sent_to m segment at ≡ true =
      elim (cases_Bool (is_sent_to m segment at)) [
        | inl t ↦ t
        | inr f ↦
            absurd
            (counted at (numbers_of segment remote) (on_map (place_at segment) place (contents remote) on)
            (take.sent at ∙ ap bit_of f))
      ] in
      let there_told : find (λ h. h.number == segment) (map (holding number_in records_in) xs)
      ≡ Some (holding number_in records_in had) =
      holding_in number_in records_in xs segment
      ∙ ap (option_map (holding number_in records_in))
      (found_is number_in xs segment lent.lent.found had (found_before once lent.lent)) in
      let told : was.standing at ≡ standing_at (records_in had.slots) place =
      ap (λ (n : ℕ). standing_told (find (λ h. h.number == n) (map (holding number_in records_in) xs)) (at % SEGMENT_PLACES)) of
      ∙ ap (λ (o : Option Holding). standing_told o (at % SEGMENT_PLACES)) there_told
      ∙ ap (standing_at (records_in had.slots)) slot in
      ap (λ (rs : List Standing). is_home (standing_at rs place)) lent.lent.same_records
      ∙ ap is_home (sym told)
      ∙ ap is_home (sym (take.agrees.standings at (ap was.holds of ∙ holds)))
      ∙ parted_open (record_at m at).generation (record_at m at).life (sent_parted m segment at sent_there)

  pub taking : IsTaking segment came (log_in call) holds ys id (drained remote)
  taking =
      let seat = take.seated lent.lent.found had lent.lent.at in
      let own : HaveRoles had.slots.seat.seat.me.0.run (of_segment segment ∷ []) =
      subst (λ (n : ℕ). HaveRoles had.slots.seat.seat.me.0.run (of_segment n ∷ [])) lent.lent.numbered seat.part in
      record {
        once = subst repeats.HasNoRepeats (sym (numbers_stay once lent.lent)) once;
        one = has_it;
        there = found_is number_in ys segment lent.lent.found has_it (found_there once lent.lent);
        same = lent.lent.changed.same ∙ seat.same;
        has =
            subst
            (λ (run : List Part). HaveRoles run (of_segment segment ∷ of_worker came (log_in call) ∷ []))
            (sym lent.lent.changed.run)
            (joined_have had.slots.seat.seat.me.0.run (of_segment segment ∷ []) own
            lent.what.seat.me.0.run (of_worker came (log_in call) ∷ []) (lent.has came take.worker));
        quiet =
            ap is_asked lent.lent.changed.run
            ∙ quiet_append had.slots.seat.seat.me.0.run lent.what.seat.me.0.run
            (quiet_segment had.slots.seat.seat.me.0.run segment own) lent.quiet;
        opened = opened;
      }

  -- the heap takes them in
  module _ (old new : Held RunSegment) {count : ℕ} (same : old.segments ≡ ys)
      (takes : Takes number_in records_in shows_in steps_in segment (drained remote) old new count)
      (whole : HaveComeHome number_in records_in segment (contents remote) old.segments new.segments count) where
    start : IsTaking segment came (log_in call) holds old.segments id (drained remote)
    start =
        subst
        (λ (segments : List (Kept RunSegment)).
        IsTaking segment came (log_in call) holds segments id (drained remote)) (sym same) taking

    all : HaveAllCome segment came (log_in call) holds id (drained remote) count start.one new.segments
    all =
        all_taken segment came (log_in call) holds id (drained remote) count old new
        (order_all remote take.right).once homes start takes

    pub many : count ≡ length (contents remote)
    many = all.many ∙ (order_all remote take.right).as_many

    pub held_still : is_held number_in new.segments segment ≡ true
    held_still = ap is_some all.end.there

    pub has_loan : (one : Kept RunSegment) → segment_in number_in new.segments segment ≡ Some one
        → 2 ≤ length one.slots.seat.seat.me.0.run
    has_loan one there =
        let is : all.end.one ≡ one = one_held new.segments segment all.end.one one all.end.there there in
        let n = all.end.has.count in
        subst (λ (k : Kept RunSegment). 2 ≤ length k.slots.seat.seat.me.0.run) is (omega (arith, n))

    like : IsLike came (worker_view policy number hand new.segments)
    like =
        let is : all.end.one ≡ whole.after =
        one_held new.segments segment all.end.one whole.after all.end.there whole.now in
        subst (λ (v : View). IsLike (come_home v (numbers_of segment remote)) (worker_view policy number hand new.segments))
        (ap (worker_view policy number hand) same
        ∙ view_stays once lent.lent policy number (hand_place hand) (hand_generation hand))
        (like_home policy number hand whole
        (λ place there.
        ap (λ (k : Kept RunSegment). is_home (standing_at (records_in k.slots) place)) (sym is)
        ∙ all.home place (on_order place there))
        low)

    -- the other segments are as they were
    others : (found : ℕ) → Found number_in new.segments segment found all.end.one → (at : ℕ)
        (k : Kept RunSegment) → at ≢ found → slice_get new.segments at ≡ Some k → IsSeated id k.slots
    others found there at k far here =
        let n : ℕ = number_in k.slots in
        let found_k : Found number_in new.segments n at k =
        record { at = here; first = found_first number_in records_in new.segments at k n all.end.once here refl } in
        let ne : n ≢ segment =
        λ e.
        far
        ((subst (λ (s : ℕ). Found number_in new.segments s at k) e found_k).first ∙ sym there.first) in
        let before : segment_in number_in xs n ≡ Some k =
        sym
        (ap (λ (segments : List (Kept RunSegment)). segment_in number_in segments n) same
        ∙ others_stay lent.lent n ne)
        ∙ sym (whole.others n ne) ∙ found_is number_in new.segments n at k found_k in
        take.seated _ k (at_position xs n k before)

    -- and the part comes back
    module _ {ws : List (Kept RunSegment)} {back : RunSeat}
        (given : HasComeBack segment new.segments back ws) where
      found_end : Found number_in new.segments segment given.found all.end.one
      found_end =
          subst (λ (k : Kept RunSegment). Found number_in new.segments segment given.found k)
          (one_held new.segments segment given.one all.end.one
          (found_is number_in new.segments segment given.found given.one (found_before all.end.once given))
          all.end.there)
          (found_before all.end.once given)

      has_end : HaveRoles all.end.one.slots.seat.seat.me.0.run
          (of_segment segment ∷ of_worker (worker_view policy number hand new.segments) (log_in call) ∷ [])
      has_end =
          second_like all.end.one.slots.seat.seat.me.0.run segment came
          (worker_view policy number hand new.segments) (log_in call) like all.end.has

      pub at_work : IsAtWork id policy number hand ws back
      at_work =
          came_back policy number hand all.end.once found_end all.end.same has_end
          (others given.found found_end) given

      pub logged : log_in back ≡ log_in call
      logged =
          came_logged policy number hand all.end.once found_end all.end.same has_end
          (others given.found found_end) given

      pub kinds_same : kinds number_in ws ≡ kinds number_in xs
      kinds_same =
          kinds_stay all.end.once given
          ∙ (whole.order ∙ (ap (kinds number_in) same ∙ kinds_stay once lent.lent))

      -- so all places of the list have come home
      pub home_whole : HaveComeHome number_in records_in segment (contents remote) xs ws
          (length (contents remote))
      home_whole =
          let before : whole.before ≡ has_it =
          one_held ys segment whole.before has_it
          (ap (λ (segments : List (Kept RunSegment)). segment_in number_in segments segment) (sym same)
          ∙ whole.was)
          (found_is number_in ys segment lent.lent.found has_it (found_there once lent.lent)) in
          let after : whole.after ≡ given.one =
          one_held new.segments segment whole.after given.one whole.now
          (found_is number_in new.segments segment given.found given.one (found_before all.end.once given)) in
          record {
            before = had;
            after = changed_one all.end.once given;
            was = found_is number_in xs segment lent.lent.found had (found_before once lent.lent);
            now =
                found_is number_in ws segment given.found (changed_one all.end.once given)
                (found_there all.end.once given);
            home =
                same_home (contents remote) (length (contents remote)) has_it given.one had.slots given.slots
                (sym lent.lent.same_records) given.same_records
                (subst (λ (T : Type 0). T)
                (λ i. AreHomeAgain records_in (contents remote) (many i) (before i) (after i)) whole.home);
            others = λ other ne.
                others_stay given other ne
                ∙ (whole.others other ne
                ∙ (ap (λ (segments : List (Kept RunSegment)). segment_in number_in segments other) same
                ∙ others_stay lent.lent other ne));
            order = kinds_same;
          }

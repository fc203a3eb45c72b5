-- While a worker's part that has places at home is lent to their segment, each of them is taken.
use Rattle.std.proofs.Common.{◌≡◌, ◌≢◌, ℕ, ◌+◌, ◌%◌, ◌<◌, Bool, true, false, List, [], ◌∷◌, length}
use Rattle.std.proofs.Common.{Some, None, inl, inr, ⊎_elim, refl, sym, ap, subst, ◌∙◌, arith}
use Rattle.std.proofs.Common.{slice_set}
use Rattle.std.proofs.lemmas.Bool.{true≢false, eq-eqb, cases_lt}
use Rattle.std.proofs.lemmas.Grind.{get_or-set_at}
use Rattle.std.proofs.lemmas.List.{get_or-set_other, get_or_past}
use Rattle.atomic_table.specs.Seated.{TableId}
use Rattle.hg_lists.specs.Repeats as repeats
use Rattle.hg_lists.proofs.RepeatsLemmas.{Lacks-not}
use Rattle.hg_place.specs.declared.standing.Standing.{Standing}
use Rattle.hg_place.specs.declared.standing.Standing.TheVariants.{Home}
use Rattle.hg_place.specs.declared.geometry.TheConstants.{SEGMENT_PLACES}
use Rattle.hg_place.specs.Lives.{IsSlotWord, word_life}
use Rattle.hg_place.specs.Places.{segment_of, page_of, index_of}
use Rattle.hg_place.specs.Slots.{slot_in}
use Rattle.hg_place.specs.Standings.{standing_at, is_home}
use Rattle.hg_machine.specs.Life.{Life, home, live, parted, Record, is_live}
use Rattle.hg_machine.specs.State.{record_at}
use Rattle.hg_agreement.specs.Agreement.{Agrees, standing_by}
use Rattle.hg_agreement.specs.Views.{View}
use Rattle.hg_agreement.proofs.Closes.{from_parts, read_as}
use Rattle.hg_segment.specs.Kept.{Kept, slot}
use Rattle.hg_heap.specs.Held.{Held, segment_in}
use Rattle.hg_heap.specs.Taking.{IsAnother, IsTaken, IsPassed, Takes}
use Rattle.hg_heap.proofs.Allotting.{found_first}
use Rattle.hg_heap.proofs.Founds.{Found, found_is, found_after, numbers_same}
use Rattle.hg_roles.specs.Roles.{Call, of_worker, of_segment}
use Rattle.hg_run_table.specs.declared.part.Part.{Part}
use Rattle.hg_run_table.specs.declared.segment.RunSegment.{RunSegment}
use Rattle.hg_run_table.specs.Asked.{is_asked}
use Rattle.hg_run_table.specs.Found.{IsFound}
use Rattle.hg_run_table.specs.Seated.{HaveRoles}
use Rattle.hg_run_table.specs.Segments.{StepsIn, place_at}
use Rattle.hg_run_table.proofs.LentSeats.{still}
use Rattle.hg_run_worker.specs.AtWork.{number_in, numbers_in, records_in, shows_in, steps_in}
use Rattle.hg_run_worker.proofs.SlotsLent.{one_held}

-- a place that isn't home has a record
recorded : (rs : List Standing) (at : ℕ) → is_home (standing_at rs at) ≡ false → at < length rs
recorded rs at away =
    elim (cases_lt at (length rs)) [
      | inl lt ↦ lt
      | inr ge ↦ absurd (true≢false (sym (ap is_home (get_or_past rs at (Home 0) ge)) ∙ away))
    ]

-- a record that stands at home isn't live
home_dead : (generation : ℕ) (life : Life) → is_home (standing_by generation life) ≡ true
    → is_live life ≡ false
home_dead generation home is = refl
home_dead generation (live owner words) is = absurd (true≢false (sym is))
home_dead generation (parted owner words) is = refl

-- a slot word says that it is live where it is odd
says_live : (word : ℕ) → IsSlotWord word → word_life word ≡ 1 → (slot_in word).live ≡ true
says_live word is odd =
    ap (λ (b : Bool). (read_as word b).live)
    (from_parts word (record { low = omega (arith, is.1); unused = λ z. omega (arith, is.2, z) }))
    ∙ eq-eqb (word % 2) 1 odd

-- a word that is found where a part has the place at home is none of a life
not_live : (segment place word : ℕ) (view : View) (log : List Call) (run : List Part)
    → HaveRoles run (of_segment segment ∷ of_worker view log ∷ [])
    → view.holds (segment_of place) ≡ true → is_home (view.standing place) ≡ true
    → IsFound place word run → IsSlotWord word → word_life word ≡ 1 → ⊥
unfolding IsFound
not_live segment place word view log run has holds stands found is odd =
    let agrees : Agrees found.agreed.state view None =
    found.agreed.agrees (of_segment segment ∷ of_worker view log ∷ []) has 1 (of_worker view log) refl in
    let r : Record = record_at found.agreed.state place in
    let dead : is_live r.life ≡ false =
    home_dead r.generation r.life (ap is_home (agrees.standings place holds) ∙ stands) in
    true≢false (sym (says_live word is odd) ∙ (found.shown.live ∙ dead))

module _ (segment : ℕ) (view : View) (log : List Call) (holds : view.holds segment ≡ true) where
  -- the part is lent to the segment, and it is asked nothing; these places are open there
  pub record IsTaking (segments : List (Kept RunSegment)) (id : TableId) (places : List ℕ) : Type 0 where
    pub once : repeats.HasNoRepeats (numbers_in segments)
    pub one : Kept RunSegment
    pub there : segment_in number_in segments segment ≡ Some one
    pub same : one.slots.seat.seat.table_id ≡ id
    pub has :
        HaveRoles one.slots.seat.seat.me.0.run (of_segment segment ∷ of_worker view log ∷ [])
    pub quiet : is_asked one.slots.seat.seat.me.0.run ≡ false
    pub opened :
        (place : ℕ) → repeats.IsIn place places
        → is_home (standing_at (records_in one.slots) place) ≡ false

  -- another segment of the number is where that one was
  module _ {old new : List (Kept RunSegment)} {id : TableId} {places : List ℕ}
      (t : IsTaking old id places) (a : IsAnother number_in segment old new) where
    same_number : number_in a.after.slots ≡ number_in a.before.slots
    same_number = a.number_kept ∙ sym a.number_is

    found_was : Found number_in old segment a.found a.before
    found_was = record {
      at = a.at;
      first = found_first number_in records_in old a.found a.before segment t.once a.at a.number_is;
    }

    was_one : a.before ≡ t.one
    was_one =
        one_held old segment a.before t.one (found_is number_in old segment a.found a.before found_was) t.there

    there_now : segment_in number_in new segment ≡ Some a.after
    there_now =
        ap (λ (ks : List (Kept RunSegment)). segment_in number_in ks segment) a.now
        ∙ found_is number_in (slice_set old a.found a.after) segment a.found a.after
        (found_after number_in old segment a.found a.before a.after found_was same_number)

    once_now : repeats.HasNoRepeats (numbers_in new)
    once_now =
        subst repeats.HasNoRepeats
        (sym
        (ap numbers_in a.now
        ∙ numbers_same number_in old a.found a.before a.after a.at same_number)) t.once

    -- it has made a step that asked nothing
    abbrev goes_on : (more : List ℕ) {at found left : ℕ}
        → StepsIn a.before.slots.segment at found left a.before.slots.seat a.after.slots.seat
        → ((place : ℕ) → repeats.IsIn place more
        → is_home (standing_at (records_in a.after.slots) place) ≡ false)
        → IsTaking new id more
    goes_on more {at} {found} {left} step opened =
        let run : a.after.slots.seat.seat.me.0.run ≡ t.one.slots.seat.seat.me.0.run =
        still (place_at a.before.slots.segment at) found left a.before.slots.seat.seat.me.0.run
        a.after.slots.seat.seat.me.0.run
        (ap (λ (k : Kept RunSegment). is_asked k.slots.seat.seat.me.0.run) was_one ∙ t.quiet)
        step.answered
        ∙ ap (λ (k : Kept RunSegment). k.slots.seat.seat.me.0.run) was_one in
        record {
          once = once_now;
          one = a.after;
          there = there_now;
          same =
              step.same ∙ ap (λ (k : Kept RunSegment). k.slots.seat.seat.table_id) was_one ∙ t.same;
          has =
              subst
              (λ (run : List Part). HaveRoles run (of_segment segment ∷ of_worker view log ∷ []))
              (sym run) t.has;
          quiet = ap is_asked run ∙ t.quiet;
          opened = opened;
        }

  slot_whole : (place : ℕ) → slot (page_of place) (index_of place) ≡ place
  slot_whole place = omega arith

  -- as many have come as these are, all of them are home, and what was home is so still
  pub record HaveAllCome (id : TableId) (places : List ℕ) (count : ℕ) (one : Kept RunSegment)
      (new : List (Kept RunSegment)) : Type 0 where
    pub many : count ≡ length places
    pub end : IsTaking new id []
    pub home :
        (place : ℕ) → repeats.IsIn place places
        → is_home (standing_at (records_in end.one.slots) place) ≡ true
    pub stays :
        (place : ℕ) → is_home (standing_at (records_in one.slots) place) ≡ true
        → is_home (standing_at (records_in end.one.slots) place) ≡ true

  -- each of them is taken
  pub all_taken : (id : TableId) (places : List ℕ) (count : ℕ) (old new : Held RunSegment)
      → repeats.HasNoRepeats places
      → ((place : ℕ) → repeats.IsIn place places
      → (place < SEGMENT_PLACES) × (is_home (view.standing (place_at segment place)) ≡ true))
      → (t : IsTaking old.segments id places)
      → Takes number_in records_in shows_in steps_in segment places old new count
      → HaveAllCome id places count t.one new.segments
  all_taken id [] count old new once homes t takes =
      subst (λ (h : Held RunSegment). HaveAllCome id [] count t.one h.segments) (sym takes.0)
      (record {
        many = takes.1;
        end = t;
        home = λ other there. absurd there;
        stays = λ other is. is;
      })
  all_taken id (place ∷ places) count old new once homes t takes =
      let whole : slot (page_of place) (index_of place) ≡ place = slot_whole place in
      ⊎_elim
      (λ (one : IsTaken number_in records_in shows_in steps_in segment (page_of place) (index_of place)
      old takes.0 × (count ≡ takes.1 + 1)).
      let a = one.0.another in
      let took = one.0.home.took in
      let opened : (other : ℕ) → repeats.IsIn other places
      → is_home (standing_at (records_in a.after.slots) other) ≡ false =
      λ other there.
      let ne : other ≢ slot (page_of place) (index_of place) =
      λ e. Lacks-not place places once.0 (subst (λ (n : ℕ). repeats.IsIn n places) (e ∙ whole) there) in
      ap (λ (rs : List Standing). is_home (standing_at rs other)) took.home
      ∙ ap is_home
      (get_or-set_other (records_in a.before.slots) (slot (page_of place) (index_of place)) other _ (Home 0) ne)
      ∙ ap (λ (k : Kept RunSegment). is_home (standing_at (records_in k.slots) other)) (was_one t a)
      ∙ t.opened other (inr there) in
      let rest =
      all_taken id places takes.1 takes.0 new once.1 (λ other there. homes other (inr there))
      (goes_on t a places took.step opened) takes.2 in
      let at_home : (other : ℕ) → is_home (standing_at (records_in t.one.slots) other) ≡ true
      → is_home (standing_at (records_in a.after.slots) other) ≡ true =
      λ other is.
      let ne : other ≢ slot (page_of place) (index_of place) =
      λ e.
      true≢false
      (sym is
      ∙ ap (λ (n : ℕ). is_home (standing_at (records_in t.one.slots) n)) (e ∙ whole)
      ∙ t.opened place (inl refl)) in
      ap (λ (rs : List Standing). is_home (standing_at rs other)) took.home
      ∙ ap is_home
      (get_or-set_other (records_in a.before.slots) (slot (page_of place) (index_of place)) other _ (Home 0) ne)
      ∙ ap (λ (k : Kept RunSegment). is_home (standing_at (records_in k.slots) other)) (was_one t a)
      ∙ is in
      let came : is_home (standing_at (records_in a.after.slots) place) ≡ true =
      ap (λ (n : ℕ). is_home (standing_at (records_in a.after.slots) n)) (sym whole)
      ∙ ap (λ (rs : List Standing). is_home (standing_at rs (slot (page_of place) (index_of place)))) took.home
      ∙ ap is_home
      (get_or-set_at (records_in a.before.slots) (slot (page_of place) (index_of place))
      (slot (page_of place) (index_of place)) _ (Home 0) refl
      (recorded (records_in a.before.slots) (slot (page_of place) (index_of place)) took.was)) in
      record {
        many = (let n = one.1 in let m = rest.many in omega (arith, n, m));
        end = rest.end;
        home = λ other there.
            ⊎_elim
            (λ (e : other ≡ place).
            rest.stays other
            (subst (λ (n : ℕ). is_home (standing_at (records_in a.after.slots) n) ≡ true) (sym e) came))
            (λ (r : repeats.IsIn other places). rest.home other r) there;
        stays = λ other is. rest.stays other (at_home other is);
      })
      (λ (one : IsPassed number_in records_in shows_in steps_in segment (page_of place) (index_of place)
      old takes.0 × (count ≡ takes.1)).
      let a = one.0.another in
      let home = homes place (inl refl) in
      let low = home.0 in
      let in_segment : segment_of (place_at segment place) ≡ segment = omega (arith, low) in
      absurd
      (⊎_elim
      (λ was.
      true≢false
      (sym was.0
      ∙ ap (λ (k : Kept RunSegment). is_home (standing_at (records_in k.slots) (slot (page_of place) (index_of place))))
      (was_one t a)
      ∙ ap (λ (n : ℕ). is_home (standing_at (records_in t.one.slots) n)) whole
      ∙ t.opened place (inl refl)))
      (λ lives.
      let numbered : place_at a.before.slots.segment (slot (page_of place) (index_of place)) ≡ place_at segment place =
      ap (λ (n : ℕ). place_at n (slot (page_of place) (index_of place))) a.number_is
      ∙ ap (place_at segment) whole in
      not_live segment (place_at segment place) lives.0 view log t.one.slots.seat.seat.me.0.run t.has
      (ap view.holds in_segment ∙ holds) home.1
      (subst
      (λ (run : List Part). IsFound (place_at segment place) lives.0 run)
      (ap (λ (k : Kept RunSegment). k.slots.seat.seat.me.0.run) (was_one t a))
      (subst (λ (n : ℕ). IsFound n lives.0 a.before.slots.seat.seat.me.0.run) numbered lives.3.agreed))
      lives.2.slot_word lives.1)
      one.0.away.passed))
      takes.3

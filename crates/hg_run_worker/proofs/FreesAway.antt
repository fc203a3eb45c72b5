-- A Free of a block that the worker doesn't hold, tied at the word that its step finds.
use Rattle.std.proofs.Common.{◌<◌, ◌≡◌, ◌≢◌, ℕ, ◌-◌, ◌==◌, ◌&&◌, Bool, true, false, not, if◌then◌else◌, cond, [], ◌∷◌}
use Rattle.std.proofs.Common.{length, map, Option, Some, None, is_some, option_map, refl, sym, ap, subst, ◌∙◌}
use Rattle.std.proofs.Common.{eq-eqb, arith}
use Rattle.std.proofs.lemmas.Bool.{eqb-true, true≢false}
use lib.ListN.{get_elem?}
use Rattle.atomic_table.proofs.Lists.{at_last}
use Rattle.hg_place.specs.declared.Actor.{Actor}
use Rattle.hg_place.specs.declared.Handle.{Handle}
use Rattle.hg_place.specs.declared.Right.TheVariants as right
use Rattle.hg_place.specs.Lives.{IsAtOrBefore, IsLiveWord, IsSlotWord}
use Rattle.hg_place.specs.Places.{number_of}
use Rattle.hg_place.specs.Slots.{slot_in}
use Rattle.hg_machine.specs.declared.Answer.{Answer}
use Rattle.hg_machine.specs.declared.Answer.TheVariants as answer
use Rattle.hg_machine.specs.declared.Event.{Event}
use Rattle.hg_machine.specs.declared.Event.TheVariants as event
use Rattle.hg_machine.specs.Policy.{Policy, arena_of}
use Rattle.hg_machine.specs.declared.Rule.{Rule}
use Rattle.hg_machine.specs.Refusal.{denial_or}
use Rattle.hg_agreement.specs.Agreement.{Ties}
use Rattle.hg_agreement.specs.Seen.{refusal_in}
use Rattle.hg_agreement.specs.Views.{View}
use Rattle.hg_agreement.proofs.Frames.{refused_is_tied}
use Rattle.hg_agreement.proofs.Frees.{free_away_is_tied}
use Rattle.hg_heap.specs.Answers.{away_answer}
use Rattle.hg_heap.specs.Held.{Held, is_held}
use Rattle.hg_heap.specs.Reading.{use_denial}
use Rattle.hg_heap.specs.Ties.{shown_at}
use Rattle.hg_heap.proofs.Undenied.{undenied_live, undenied_once}
use Rattle.hg_heap.proofs.ViewRoom.{view_holds}
use Rattle.std.specs.Arc.{arc_value}
use Rattle.hg_roles.specs.Roles.{Call}
use Rattle.hg_roles.specs.Served.{places_of_policy}
use Rattle.hg_run_table.specs.Calls.{IsTiedAt, MayCall, view_by}
use Rattle.hg_run_table.specs.declared.segment.RunSegment.{RunSegment}
use Rattle.hg_run_table.specs.declared.table.RunSeat.{RunSeat}
use Rattle.hg_run_table.specs.declared.table.RunTable.{RunTable}
use Rattle.hg_table.specs.declared.view.Part.{Part}
use Rattle.hg_table.specs.Steps.{known_after, left_by, look, part_from}
use Rattle.hg_table.specs.Told.{IsShown, IsShownTo}
use Rattle.hg_table.specs.View as lives
use Rattle.hg_run_worker.specs.AtWork.{IsReady, KeepsWith, hand_after, hand_place, number_in, records_in, view_in, worker_view}
use Rattle.hg_run_worker.specs.Freeing.{away_refusal, exchange_answer}
use Rattle.hg_run_worker.specs.declared.worker.RunWorker.{RunWorker}
use Rattle.hg_run_worker.proofs.Reach.{place_within}

by_hand : (hand : Option Handle) (denial : Option Rule)
    → denial_or denial ((not false && is_some (hand_place hand), answer.Busy) ∷ [])
    ≡ away_refusal (is_some hand) denial
by_hand None None = refl
by_hand None (Some rule) = refl
by_hand (Some handle) None = refl
by_hand (Some handle) (Some rule) = refl

-- a word that refuses nothing denies nothing, and nothing is in hand
pub unrefused : (hand : Option Handle) (denial : Option Rule)
    → away_refusal (is_some hand) denial ≡ None → (denial ≡ None) × (hand ≡ None)
unrefused None None e = (refl, refl)
unrefused None (Some rule) e = absurd (cc)
unrefused (Some handle) None e = absurd (cc)
unrefused (Some handle) (Some rule) e = absurd (cc)

-- what a worker has that has such a block in hand
abbrev pub parted_view : RunWorker → Handle → View
parted_view worker handle =
    worker_view worker.policy worker.number (Some handle) worker.heap.segments

pub same_view : (view : View) (o : Option Call) → view_by view o view ≡ view
same_view view None = refl
same_view view (Some call) = refl

-- what refuses it leaves what is in hand
pub kept_away : (handle : Handle) (hand : Option Handle) (denial : Option Rule)
    → hand_after (away_answer denial) handle hand ≡ hand
kept_away handle hand None = refl
kept_away handle hand (Some rule) = refl

pub kept_refused : (handle : Handle) (hand : Option Handle) (busy : Bool) (denial : Option Rule)
    (a : Answer) → away_refusal busy denial ≡ Some a → hand_after a handle hand ≡ hand
kept_refused handle hand busy (Some rule) a e =
    let is : answer.Denied rule ≡ a = cc in
    subst (λ (x : Answer). hand_after x handle hand ≡ hand) is refl
kept_refused handle hand true None a e =
    let is : answer.Busy ≡ a = cc in
    subst (λ (x : Answer). hand_after x handle hand ≡ hand) is refl
kept_refused handle hand false None a e = absurd (cc)

-- a seat of one part has one behind a look
pub one_seen : (f : Part → Part) (view after : lives.View) → view ≡ lives.part_of view ∷ []
    → after ≡ map f view → after ≡ lives.part_of after ∷ []
one_seen f view after one is =
    let now : after ≡ f (lives.part_of view) ∷ [] = is ∙ ap (map f) one in
    now ∙ sym (ap (λ (v : lives.View). lives.part_of v ∷ []) now)

-- the one part of a seat that has looked finds no word before it again
pub seen_before : (at word found : ℕ) (before : lives.View) → before ≡ lives.part_of before ∷ []
    → IsShownTo at found (map (known_after look at word) before) → IsAtOrBefore word found
seen_before at word found before one shown =
    let now : map (known_after look at word) before ≡ lives.saw at word (lives.part_of before) ∷ [] =
    ap (map (known_after look at word)) one in
    let there : IsShown at found (lives.saw at word (lives.part_of before)) =
    shown 0 (lives.saw at word (lives.part_of before)) (ap (λ (view : lives.View). get_elem? view 0) now) in
    there.seen (length (lives.part_of before).seen) word
    (at_last (lives.part_of before).seen (at, word) (length (lives.part_of before).seen) refl)

pub slot_found : (at found : ℕ) (view : lives.View) → view ≡ lives.part_of view ∷ [] → IsShownTo at found view
    → IsSlotWord found
slot_found at found view one shown =
    (shown 0 (lives.part_of view) (ap (λ (v : lives.View). get_elem? v 0) one)).slot_word

module _ (worker : RunWorker) (actor : Actor) (handle : Handle)
    (away : is_held number_in worker.heap.segments handle.place.segment ≡ false) where
  abbrev denial : ℕ → Option Rule
  denial word = use_denial worker.policy actor.0 right.Free handle word

  holds_not : (view_in worker).holds handle.place.segment ≡ false
  holds_not = view_holds number_in records_in worker.heap.segments handle.place.segment ∙ away

  pub refused_is : (word : ℕ)
      → refusal_in (view_in worker) (slot_in word) (event.Free actor handle)
      ≡ away_refusal (is_some worker.hand) (denial word)
  refused_is word =
      ap
      (λ (b : Bool).
      denial_or (denial word) ((not b && is_some (hand_place worker.hand), answer.Busy) ∷ []))
      holds_not
      ∙ by_hand worker.hand (denial word)

  pub refused_at : (word : ℕ) (a : Answer)
      → refusal_in (view_in worker) (slot_in word) (event.Free actor handle) ≡ Some a
      → IsTiedAt worker.policy (number_of handle.place) word word (view_in worker)
      (event.Free actor handle, a) (view_in worker)
  refused_at word a e = record {
    own = record { worker = worker.below; same = refl; own = refl };
    alone = λ other below t. sym (eqb-true (number_of handle.place) other t);
    ties =
        refused_is_tied (view_in worker) (shown_at handle.place word) (event.Free actor handle) a worker.below
        refl e;
  }

  look_by : (word : ℕ) (o : Option Answer)
      → refusal_in (view_in worker) (slot_in word) (event.Free actor handle) ≡ o
      → MayCall worker.policy (number_of handle.place) word word (view_in worker)
      (option_map (λ a. (event.Free actor handle, a)) o) (view_in worker)
  look_by word None e = refl
  look_by word (Some a) e = refused_at word a e

  -- a look decides it where its word refuses
  pub look_tied : (word : ℕ)
      → MayCall worker.policy (number_of handle.place) word word (view_in worker)
      (option_map (λ a. (event.Free actor handle, a)) (away_refusal (is_some worker.hand) (denial word)))
      (view_in worker)
  look_tied word = look_by word (away_refusal (is_some worker.hand) (denial word)) (refused_is word)

  denied : (found : ℕ) (o : Option Rule) → denial found ≡ o → o ≢ None
      → refusal_in (view_in worker) (slot_in found) (event.Free actor handle) ≡ Some (away_answer o)
  denied found None e not = absurd (not refl)
  denied found (Some rule) e not =
      refused_is found ∙ ap (away_refusal (is_some worker.hand)) e

  -- of a place of no segment it is refused without a word
  pub unplaced_ties : arena_of worker.policy handle.place.segment ≡ None
      → Ties (view_in worker) None (event.Free actor handle) (away_answer (denial 0)) (view_in worker) None
  unplaced_ties none =
      refused_is_tied (view_in worker) None (event.Free actor handle) (away_answer (denial 0)) worker.below none
      (denied 0 (denial 0) refl
      (λ e.
      let there = undenied_live worker.policy actor.0 right.Free handle 0 (omega arith, omega arith, λ low. refl) e in
      true≢false (sym there.2 ∙ ap is_some none)))

  -- and the exchange of a word that doesn't: it finds this word, or one that is denied
  module _ (expected : ℕ) (slot : IsSlotWord expected)
      (none : away_refusal (is_some worker.hand) (denial expected) ≡ None) where
    exchanged : (found : ℕ) (b : Bool) → (found == expected) ≡ b → IsSlotWord found
        → IsAtOrBefore expected found
        → MayCall worker.policy (number_of handle.place) found (left_by (part_from expected) found)
        (view_in worker) (Some (event.Free actor handle, exchange_answer b (denial found)))
        (cond b (parted_view worker handle) (view_in worker))
    exchanged found true e slot_found order =
        let same : found ≡ expected = eqb-true found expected e in
        let left : left_by (part_from expected) found ≡ found - 1 =
        ap (λ (b : Bool). if b then expected - 1 else found) e ∙ ap (λ n. n - 1) (sym same) in
        record {
          own = record { worker = worker.below; same = refl; own = refl };
          alone = λ other below t. sym (eqb-true (number_of handle.place) other t);
          ties =
              subst
              (λ n.
              Ties (view_in worker) (shown_at handle.place found) (event.Free actor handle) answer.Parted
              (parted_view worker handle) (shown_at handle.place n))
              (sym left)
              (free_away_is_tied (view_in worker) found actor handle worker.below
              (ap (λ n. refusal_in (view_in worker) (slot_in n) (event.Free actor handle)) same
              ∙ refused_is expected ∙ none)
              holds_not);
        }
    exchanged found false e slot_found order =
        let u = unrefused worker.hand (denial expected) none in
        subst
        (λ n.
        IsTiedAt worker.policy (number_of handle.place) found n (view_in worker)
        (event.Free actor handle, away_answer (denial found)) (view_in worker))
        (sym (ap (λ (b : Bool). if b then expected - 1 else found) e))
        (refused_at found (away_answer (denial found))
        (denied found (denial found) refl
        (λ undenied.
        let is : found ≡ expected =
        undenied_once worker.policy actor.0 right.Free handle expected found slot slot_found u.0 undenied order in
        true≢false (sym (eq-eqb found expected is) ∙ e))))

    pub exchange_tied : (found : ℕ) → IsSlotWord found → IsAtOrBefore expected found
        → MayCall worker.policy (number_of handle.place) found (left_by (part_from expected) found)
        (view_in worker)
        (Some (event.Free actor handle, exchange_answer (found == expected) (denial found)))
        (cond (found == expected) (parted_view worker handle) (view_in worker))
    exchange_tied found = exchanged found (found == expected) refl

-- the worker of such a Free, with its own seat beside its part of the run or not: what a step at its place owes
module _ {old now : RunWorker} {actor : Actor} {handle : Handle} {e : Event}
    {rule : ℕ → Option Rule} (ready : IsReady old) (rest : KeepsWith old.hand old now)
    (heap : now.heap ≡ old.heap)
    (away : is_held number_in old.heap.segments handle.place.segment ≡ false)
    (is : e ≡ event.Free actor handle)
    (rules : (word : ℕ) → rule word ≡ use_denial old.policy actor.0 right.Free handle word) where
  key_now : (arc_value now.table).table.shared.key ≡ now.policy
  key_now =
      ap (λ (t : RunTable). t.table.shared.key) rest.table ∙ ready.key ∙ sym rest.policy

  away_now : is_held number_in now.heap.segments handle.place.segment ≡ false
  away_now = ap (λ (h : Held RunSegment). is_held number_in h.segments handle.place.segment) heap ∙ away

  pub rules_now : (word : ℕ) → rule word ≡ use_denial now.policy actor.0 right.Free handle word
  rules_now word =
      rules word ∙ ap (λ p. use_denial p actor.0 right.Free handle word) (sym rest.policy)

  pub place_owed : is_some (arena_of old.policy handle.place.segment) ≡ true
      → number_of handle.place < places_of_policy (arc_value now.table).table.shared.key
  place_owed there =
      subst (λ (p : Policy). number_of handle.place < places_of_policy p) (sym (key_now ∙ rest.policy))
      (place_within old.policy handle.place there)

  pub look_owed : (word : ℕ)
      → MayCall (arc_value now.table).table.shared.key (number_of handle.place) word word (view_in now)
      (option_map (λ answer. (e, answer)) (away_refusal (is_some now.hand) (rule word))) (view_in now)
  look_owed word =
      subst (λ (T : Type 0). T)
      (λ i.
      MayCall (sym key_now i) (number_of handle.place) word word (view_in now)
      (option_map (λ answer. (sym is i, answer)) (away_refusal (is_some now.hand) (sym (rules_now word) i)))
      (view_in now))
      (look_tied now actor handle away_now word)

  pub part_owed : {freed : Option Handle} (expected : ℕ) → freed ≡ Some handle → IsSlotWord expected
      → away_refusal (is_some now.hand) (rule expected) ≡ None → (found : ℕ) → IsSlotWord found
      → IsAtOrBefore expected found
      → MayCall (arc_value now.table).table.shared.key (number_of handle.place) found
      (left_by (part_from expected) found) (view_in now)
      (Some (e, exchange_answer (found == expected) (rule found)))
      (cond (found == expected)
      (worker_view now.policy now.number freed now.heap.segments) (view_in now))
  part_owed expected has slot none found slot_found order =
      subst (λ (T : Type 0). T)
      (λ i.
      MayCall (sym key_now i) (number_of handle.place) found (left_by (part_from expected) found) (view_in now)
      (Some (sym is i, exchange_answer (found == expected) (sym (rules_now found) i)))
      (cond (found == expected)
      (worker_view now.policy now.number (sym has i) now.heap.segments) (view_in now)))
      (exchange_tied now actor handle away_now expected slot
      (ap (away_refusal (is_some now.hand)) (sym (rules_now expected)) ∙ none) found slot_found order)

  -- a word that doesn't refuse it is live
  pub live_owed : (expected : ℕ) → IsSlotWord expected
      → away_refusal (is_some now.hand) (rule expected) ≡ None → IsLiveWord expected
  live_owed expected slot none =
      (undenied_live now.policy actor.0 right.Free handle expected slot
      (sym (rules_now expected) ∙ (unrefused now.hand (rule expected) none).0)).0

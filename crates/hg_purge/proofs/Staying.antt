-- An event of another side leaves what is kept of this one.
use Rattle.std.proofs.Common.{◌≡◌, ℕ, ◌==◌, ◌&&◌, inl, inr, Bool, true, false, List, [], ◌∷◌}
use Rattle.std.proofs.Common.{if◌then◌else◌, length, map, set, Option, Some, None}
use Rattle.std.proofs.Common.{refl, sym, ap, subst, ◌∙◌}
use Rattle.std.specs.List.{AllByRecursion, count_by}
use Rattle.std.proofs.lemmas.Bool.{eqb-true, true≢false}
use Rattle.std.proofs.lemmas.Bool.{false_from_ne_true, and_left}
use Rattle.hg_place.specs.declared.Actor.{Actor}
use Rattle.hg_place.specs.declared.Right.{Right}
use Rattle.hg_place.specs.declared.Handle.{Handle}
use Rattle.hg_place.specs.declared.Right.TheVariants as right
use Rattle.hg_place.specs.Places.{number_of, page_number, page_of, segment_of}
use Rattle.hg_place.specs.Places.{segment_of_page}
use Rattle.hg_remote.specs.Remote.{is_delayed}
use Rattle.hg_remote.specs.Order.{drained}
use Rattle.hg_machine.specs.declared.Event.{Event}
use Rattle.hg_machine.specs.declared.Event.TheVariants as event
use Rattle.hg_machine.specs.declared.Answer.{Answer}
use Rattle.hg_machine.specs.declared.Answer.TheVariants as answer
use Rattle.hg_machine.specs.Life.{Record}
use Rattle.hg_machine.specs.State.{State, orphan, held, record_at, class_at, hand_of}
use Rattle.hg_machine.specs.State.{places_in, pages_in}
use Rattle.hg_machine.specs.Holders.{holds}
use Rattle.hg_machine.specs.Denial.{denial}
use Rattle.hg_machine.specs.Sweeps.{is_sent, is_sent_to}
use Rattle.hg_machine.specs.Refusal.{refusal}
use Rattle.hg_machine.specs.Request.{size_of}
use Rattle.hg_machine.specs.Served.{IsServed}
use Rattle.hg_machine.specs.Lists.{Lists, Kept, list_at}
use Rattle.hg_machine.proofs.Allowed.{allowed, no_denial}
use Rattle.hg_machine.specs.Sweeps.{settled}
use Rattle.hg_laws.proofs.MachineFacts.{segment_is, free_cases}
use Rattle.hg_choice.specs.ListsAfter.{came_home, all_home, remote_of, delivered, nothing_sent_to}
use Rattle.hg_choice.specs.ListsAfter.{is_collected}
use Rattle.hg_purge.proofs.SameAt.{SameAt, same_itself, set_off, map_off}
use Rattle.hg_purge.proofs.Agreeing.{after, sent_by, StateOn, ListsOn, AgreeOn}
use Rattle.hg_purge.proofs.Agreeing.{IsApart, NamesAt, Names, settled_by, state_itself, records_on}
use Rattle.hg_purge.proofs.Agreeing.{classes_on, holders_on, hands_on, lists_itself, lists_then}
use Rattle.hg_purge.proofs.Agreeing.{agree_itself}
use Rattle.hg_purge.proofs.Filters.{pushed_off, without_off}
use Rattle.hg_purge.proofs.Filing.{drained_filed}
use Rattle.hg_purge.proofs.Following.{held_named}
use Rattle.hg_purge.proofs.Facts.{segment_of_paged, page_segment, room_held, next_in, all_then}

-- a segment of this side isn't that one
elsewhere : (on : ℕ → Bool) (segment other : ℕ) → on segment ≡ false → on other ≡ true
    → (other == segment) ≡ false
elsewhere on segment other off o =
    false_from_ne_true _ (λ t. true≢false (sym o ∙ ap on (eqb-true other segment t) ∙ off))

module _ {on own : ℕ → Bool} where
  -- the lists of a page that isn't of the side
  page_off : (l : Lists) (page : ℕ) (free local : List ℕ) → on (segment_of_page page) ≡ false
      → ListsOn on own l
      (record l { free = set l.free page free; local_free = set l.local_free page local })
  page_off l page free local off = record {
    free = set_off page free off;
    local_free = set_off page local off;
    thread_free = same_itself _;
    delayed = same_itself _;
  }

  came_off : (s : State) (l : Lists) (place : ℕ) → on (segment_of place) ≡ false
      → ListsOn on own l (came_home s l place)
  came_off s l place off =
      page_off l (page_of place) _ _ (ap on (segment_of_paged place) ∙ off)

  all_off : (s : State) (l : Lists) (places : List ℕ)
      → AllByRecursion (λ place. on (segment_of place) ≡ false) places
      → ListsOn on own l (all_home s l places)
  all_off s l [] off = lists_itself l
  all_off s l (place ∷ places) off =
      lists_then (came_off s l place off.0) (all_off s (came_home s l place) places off.1)

  -- a place was sent to a segment
  sent_off : (l : Lists) (place : ℕ) (b : Bool) → on (segment_of place) ≡ false
      → ListsOn on own l (sent_by l place b)
  sent_off l place true off = record {
    free = same_itself _;
    local_free = same_itself _;
    thread_free =
        set_off (page_of place) _ (ap on (segment_of_paged place) ∙ off);
    delayed = set_off (segment_of place) _ off;
  }
  sent_off l place false off = record {
    free = same_itself _;
    local_free = same_itself _;
    thread_free = same_itself _;
    delayed = set_off (segment_of place) _ off;
  }

  delivered_off : (l : Lists) (hand : Option ℕ)
      → ((place : ℕ) → hand ≡ Some place → on (segment_of place) ≡ false)
      → ListsOn on own l (delivered l hand)
  delivered_off l None off = lists_itself l
  delivered_off l (Some place) off =
      sent_off l place (is_delayed (remote_of l (segment_of place)) (page_of place))
      (off place refl)

  nothing_off : (s : State) (l : Lists) (segment : ℕ) → on segment ≡ false
      → length l.thread_free ≡ length s.classes
      → ListsOn on own l (nothing_sent_to s l segment)
  nothing_off s l segment off long = record {
    free = same_itself _;
    local_free = same_itself _;
    thread_free =
        map_off _ (length s.classes) long
        (λ page o. ap (λ b. if b then [] else list_at l.thread_free page)
        (elsewhere on segment (segment_of_page page) off o));
    delayed = set_off segment [] off;
  }

  module _ (k : Kept) (apart : IsApart on own k) (w : ℕ) (other : own w ≡ false) where
    abbrev Stays : Event → Answer → Type 0
    Stays e a = AgreeOn on own k (after k w e a)

    unheld : (segment : ℕ) → on segment ≡ true → holds k.state w segment ≡ false
    unheld segment o =
        false_from_ne_true _
        (λ h. true≢false (sym o ∙ apart.parted.holding w segment h ∙ other))

    hand_off : (place : ℕ) → hand_of k.state w ≡ Some place → on (segment_of place) ≡ false
    hand_off place h = apart.parted.hands w place h ∙ other

    -- with these for the worker, whose they are alone
    with_these : {t : State} {l : Lists} (queues : List (List ℕ)) → StateOn on own k.state t
        → ListsOn on own k.lists l
        → AgreeOn on own k (record { state = t; lists = l; queues = set k.queues w queues })
    with_these queues state lists =
        record { state = state; lists = lists; queues = set_off w queues other }

    as_was : StateOn on own k.state k.state
    as_was = state_itself k.state

    alloc_off : (actor : Actor) (arena bytes : ℕ) (handle : Handle)
        → on handle.place.segment ≡ false
        → Stays (event.Alloc actor arena bytes) (answer.Block handle)
    alloc_off actor arena bytes handle off =
        let page = page_number handle.place in
        let paged = ap on (page_segment handle.place) ∙ off in
        with_these _
        (classes_on
        (records_on as_was
        (set_off (number_of handle.place) _
        (ap on (segment_is handle.place) ∙ off)))
        (set_off page _ paged))
        (page_off k.lists page _ _ paged)

    record_off : (handle : Handle) (r : Record) → on handle.place.segment ≡ false
        → StateOn on own k.state
        (record k.state { records = set k.state.records (number_of handle.place) r })
    record_off handle r off =
        records_on as_was
        (set_off (number_of handle.place) r
        (ap on (segment_is handle.place) ∙ off))

    done_off : (actor : Actor) (handle : Handle) → on handle.place.segment ≡ false
        → Stays (event.Free actor handle) answer.Done
    done_off actor handle off =
        with_these _ (record_off handle _ off)
        (came_off k.state k.lists (number_of handle.place) (ap on (segment_is handle.place) ∙ off))

    parted_off : (actor : Actor) (handle : Handle) → on handle.place.segment ≡ false
        → Stays (event.Free actor handle) answer.Parted
    parted_off actor handle off = record {
      state =
          hands_on (record_off handle _ off) (set_off w _ other);
      lists = lists_itself k.lists;
      queues = same_itself _;
    }

    deliver_off : Stays event.Deliver answer.Done
    deliver_off = record {
      state = hands_on as_was (set_off w None other);
      lists = delivered_off k.lists (hand_of k.state w) hand_off;
      queues = same_itself _;
    }

    settled_off : (segment : ℕ) → on segment ≡ false → (place : ℕ) → on (segment_of place) ≡ true
        → settled k.state segment place ≡ record_at k.state place
    settled_off segment off place o =
        ap (λ b. settled_by b (record_at k.state place))
        (and_left (segment_of place == segment) (is_sent k.state place)
        (elsewhere on segment (segment_of place) off o))

    take_off : (segment n : ℕ) → on segment ≡ false → Stays (event.Take segment) (answer.Taken n)
    take_off segment n off =
        let places = drained (remote_of k.lists segment) in
        let home_off = all_off k.state k.lists places
        (all_then (λ place. segment_of place ≡ segment) (λ place. on (segment_of place) ≡ false)
        (λ place e. ap on e ∙ off) places (drained_filed k.lists segment apart.filed)) in
        with_these _
        (records_on as_was
        (map_off _ (length k.state.records) refl
        (settled_off segment off)))
        (lists_then home_off
        (nothing_off k.state (all_home k.state k.lists places) segment off
        (home_off.thread_free.long ∙ apart.sized.thread_free)))

    -- of the pages of this side the worker collects none
    uncollected : {A : Type 0} (b : Bool) (page : ℕ) (x y : A) → on (segment_of_page page) ≡ true
        → (if holds k.state w (segment_of_page page) && b then x else y) ≡ y
    uncollected b page x y o =
        ap (λ h. if h then x else y)
        (and_left (holds k.state w (segment_of_page page)) b (unheld (segment_of_page page) o))

    collect_off : (n : ℕ) → Stays event.Collect (answer.Pages n)
    collect_off n =
        let pages = length k.state.classes in
        let emptied : (lists : List (List ℕ)) → length lists ≡ pages
        → SameAt (λ page. on (segment_of_page page)) [] lists
        (map (λ page. if is_collected k.state w page then [] else list_at lists page)
        (pages_in k.state)) =
        λ lists long. map_off _ pages long
        (λ page o. uncollected _ page [] (list_at lists page) o) in
        with_these _
        (classes_on as_was
        (map_off _ pages refl
        (λ page o. uncollected _ page None (class_at k.state page) o)))
        (record {
          free = emptied k.lists.free apart.sized.free;
          local_free = emptied k.lists.local_free apart.sized.local_free;
          thread_free = same_itself _;
          delayed = same_itself _;
        })

    write_off : (actor : Actor) (handle : Handle) (index value : ℕ)
        → on handle.place.segment ≡ false
        → Stays (event.Write actor handle index value) answer.Done
    write_off actor handle index value off = record {
      state = record_off handle _ off;
      lists = lists_itself k.lists;
      queues = same_itself _;
    }

    abandon_off : (segment : ℕ) → on segment ≡ false → Stays (event.Abandon segment) answer.Done
    abandon_off segment off =
        with_these _
        (holders_on as_was (set_off segment orphan off)
        (pushed_off on segment k.state.orphans off))
        (lists_itself k.lists)

    refill_off : (arena segment : ℕ) → on segment ≡ false
        → Stays (event.Refill arena) (answer.Refilled segment)
    refill_off arena segment off =
        with_these _
        (holders_on as_was (set_off segment (held w) off)
        (without_off on segment k.state.orphans off))
        (lists_itself k.lists)

    -- the handle of a served Free or Write is of a segment that there is
    named_off : (actor : ℕ) (right : Right) (handle : Handle)
        → denial k.state actor right handle.place handle.generation ≡ None
        → NamesAt on own false k.state handle.place.segment → on handle.place.segment ≡ false
    named_off actor right handle none off =
        off (allowed k.state actor right handle.place handle.generation none).segment

    -- a served event of a worker of another side, which names nothing of this one
    pub served_stays : (e : Event) (a : Answer) → refusal k.state w e ≡ None
        → IsServed k.state w e a → Names on own false k.state e → Stays e a
    served_stays (event.Alloc actor arena bytes) a none g off =
        let mine = room_held k.state w arena (size_of bytes) (number_of g.0.place) g.2.room in
        subst (Stays (event.Alloc actor arena bytes)) (sym g.1)
        (alloc_off actor arena bytes g.0
        (sym (ap on (segment_is g.0.place)) ∙ apart.parted.holding w _ mine ∙ other))
    served_stays (event.Free actor handle) a none is off =
        let away_from = named_off actor.0 right.Free handle (no_denial _ _ none).0 off in
        elim (free_cases (holds k.state w handle.place.segment) a is) as
        (λ _. Stays (event.Free actor handle) a) [
          | inl done ↦
              subst (Stays (event.Free actor handle)) (sym done) (done_off actor handle away_from)
          | inr away ↦
              subst (Stays (event.Free actor handle)) (sym away) (parted_off actor handle away_from)
        ]
    served_stays event.Deliver a none is off = subst (Stays event.Deliver) (sym is) deliver_off
    served_stays (event.Take segment) a none is off =
        subst (Stays (event.Take segment)) (sym is)
        (take_off segment (count_by (is_sent_to k.state segment) (places_in k.state))
        (held_named apart.parted w segment none ∙ other))
    served_stays event.Collect a none is off = subst (Stays event.Collect) (sym is)
        (collect_off (count_by (is_collected k.state w) (pages_in k.state)))
    served_stays (event.Read actor handle index) a none is off =
        subst (Stays (event.Read actor handle index)) (sym is) (agree_itself k)
    served_stays (event.Write actor handle index value) a none is off =
        subst (Stays (event.Write actor handle index value)) (sym is)
        (write_off actor handle index value
        (named_off actor.0 right.Write handle (no_denial _ _ none).0 off))
    served_stays (event.Look actor place) a none g off =
        subst (Stays (event.Look actor place)) (sym g.1) (agree_itself k)
    served_stays (event.Abandon segment) a none is off =
        subst (Stays (event.Abandon segment)) (sym is)
        (abandon_off segment (held_named apart.parted w segment none ∙ other))
    served_stays (event.Refill arena) a none g off =
        subst (Stays (event.Refill arena)) (sym g.1)
        (refill_off arena g.0 (off g.0 (next_in k.state arena g.0 g.2)))

-- An event of the side leaves two keeps in agreement.
use Rattle.std.proofs.Common.{◌≡◌, ℕ, ◌==◌, ◌&&◌, ◌++◌, inl, inr, Bool, true, not}
use Rattle.std.proofs.Common.{List, [], ◌∷◌, if◌then◌else◌, length, set, map, filter}
use Rattle.std.proofs.Common.{Some, None, refl, sym, ap, subst, ◌∙◌}
use Rattle.std.specs.List.{count_by}
use Rattle.std.proofs.lemmas.List.Elements.{filter-append}
use Rattle.hg_place.specs.declared.Handle.{Handle}
use Rattle.hg_place.specs.declared.Actor.{Actor}
use Rattle.hg_place.specs.Places.{number_of, page_number, segment_of, segment_of_page}
use Rattle.hg_size.specs.Sizes.{number_of_size}
use Rattle.hg_size.specs.SizeLaws.{key_of}
use Rattle.hg_remote.specs.Order.{drained}
use Rattle.hg_heap.specs.Releasing.{without_pages}
use Rattle.hg_machine.specs.declared.Event.{Event}
use Rattle.hg_machine.specs.declared.Event.TheVariants as event
use Rattle.hg_machine.specs.declared.Answer.{Answer}
use Rattle.hg_machine.specs.declared.Answer.TheVariants as answer
use Rattle.hg_machine.specs.Life.{Record, home}
use Rattle.hg_machine.specs.State.{State, record_at, class_at, hand_of, places_in}
use Rattle.hg_machine.specs.State.{pages_in}
use Rattle.hg_machine.specs.Changes.{part, write}
use Rattle.hg_machine.specs.Holders.{holds}
use Rattle.hg_machine.specs.Room.{is_room}
use Rattle.hg_machine.specs.Sweeps.{is_sent_to, is_idle, cleared, settled}
use Rattle.hg_machine.specs.Refusal.{refusal}
use Rattle.hg_machine.specs.Request.{size_of}
use Rattle.hg_machine.specs.Served.{IsServed}
use Rattle.hg_machine.specs.Lists.{Lists, Kept}
use Rattle.hg_laws.proofs.MachineFacts.{segment_is, free_cases}
use Rattle.hg_choice.specs.Choice.{queues_of}
use Rattle.hg_choice.specs.ListsAfter.{given_from, all_home, remote_of, is_collected}
use Rattle.hg_choice.specs.ListsAfter.{delivered}
use Rattle.hg_choice.specs.QueuesAfter.{placed, all_placed, with_pages}
use Rattle.hg_purge.proofs.SameAt.{set_both, maps_both}
use Rattle.hg_purge.proofs.Agreeing.{after, StateOn, ListsOn, AgreeOn, IsApart, Beside}
use Rattle.hg_purge.proofs.Agreeing.{Names}
use Rattle.hg_purge.proofs.Agreeing.{records_on, classes_on, holders_on, hands_on, settled_by}
use Rattle.hg_purge.proofs.Filters.{without_same}
use Rattle.hg_purge.proofs.Facts.{page_segment, room_held, next_in, all_then}
use Rattle.hg_purge.proofs.Filing.{drained_filed}
use Rattle.hg_purge.proofs.Following.{held_named, place_same, holding_same, sent_same}
use Rattle.hg_purge.proofs.Following.{collected_same}
use Rattle.hg_purge.proofs.Following.{idle_same}
use Rattle.hg_purge.proofs.Listing.{given_same, came_same, homes_same, placed_same}
use Rattle.hg_purge.proofs.Listing.{all_placed_same, with_pages_same, drained_same, nothing_same}
use Rattle.hg_purge.proofs.Listing.{delivered_same, cleared_lists}

-- the place of a block that is given out is of the side
pub block_on : {on own : ℕ → Bool} {k : Kept} → IsApart on own k → (w : ℕ) → own w ≡ true
    → (arena size place : ℕ) → is_room k.state w arena size place ≡ true
    → on (segment_of place) ≡ true
block_on {on} {own} {k} here w mine arena size place room =
    here.parted.holding w (segment_of place) (room_held k.state w arena size place room) ∙ mine

module _ {on own : ℕ → Bool} {k m : Kept} (agree : AgreeOn on own k m) (here : IsApart on own k)
    (there : IsApart on own m) (w : ℕ) (mine : own w ≡ true) where
  abbrev Leave : Event → Answer → Type 0
  Leave e a = AgreeOn on own (after k w e a) (after m w e a)

  beside : Beside on own k.state m.state
  beside = record { same = agree.state; here = here.parted; there = there.parted }

  queues_same : queues_of m w ≡ queues_of k w
  queues_same = agree.queues.at w mine

  -- with these for the worker in both
  with_both : {s t : State} {l n : Lists} {qs rs : List (List ℕ)} → StateOn on own s t
      → ListsOn on own l n → rs ≡ qs
      → AgreeOn on own (record { state = s; lists = l; queues = set k.queues w qs })
      (record { state = t; lists = n; queues = set m.queues w rs })
  with_both state lists e =
      record { state = state; lists = lists; queues = set_both w agree.queues e }

  -- with a record made of the old one, at a place of the side
  record_both : (handle : Handle) (f : Record → Record) → on handle.place.segment ≡ true
      → let p = number_of handle.place in
      StateOn on own (record k.state { records = set k.state.records p (f (record_at k.state p)) })
      (record m.state { records = set m.state.records p (f (record_at m.state p)) })
  record_both handle f o =
      records_on agree.state
      (set_both (number_of handle.place) agree.state.records
      (ap f (place_same beside handle.place o)))

  alloc_both : (actor : Actor) (arena bytes : ℕ) (handle : Handle) → on handle.place.segment ≡ true
      → Leave (event.Alloc actor arena bytes) (answer.Block handle)
  alloc_both actor arena bytes handle o =
      let size = size_of bytes in
      let page = page_number handle.place in
      let paged = ap on (page_segment handle.place) ∙ o in
      let given = given_same agree.state size page agree.lists paged in
      let key = Some (key_of arena (number_of_size size)) in
      with_both
      (classes_on
      (records_on agree.state (set_both (number_of handle.place) agree.state.records refl))
      (set_both page agree.state.classes refl))
      given
      (placed_same agree.state page key (queues_of m w) given paged
      ∙ ap (placed (given_from k.state k.lists size page) page key) queues_same)

  done_both : (actor : Actor) (handle : Handle) → on handle.place.segment ≡ true
      → Leave (event.Free actor handle) answer.Done
  done_both actor handle o =
      let p = number_of handle.place in
      let at = ap on (segment_is handle.place) ∙ o in
      with_both
      (record_both handle (λ r. record { generation = r.generation; life = home }) o)
      (came_same agree.state p agree.lists at)
      (all_placed_same agree.state (p ∷ []) (queues_of m w) agree.lists (at, tt)
      ∙ ap (all_placed k.state k.lists (p ∷ [])) queues_same)

  parted_both : (actor : Actor) (handle : Handle) → on handle.place.segment ≡ true
      → Leave (event.Free actor handle) answer.Parted
  parted_both actor handle o = record {
    state =
        hands_on
        (record_both handle (λ r. record { generation = r.generation; life = part r.life }) o)
        (set_both w agree.state.hands refl);
    lists = agree.lists;
    queues = agree.queues;
  }

  deliver_both : Leave event.Deliver answer.Done
  deliver_both = record {
    state = hands_on agree.state (set_both w agree.state.hands refl);
    lists =
        subst
        (λ hand. ListsOn on own (delivered k.lists (hand_of k.state w)) (delivered m.lists hand))
        (sym (agree.state.hands.at w mine))
        (delivered_same (hand_of k.state w) agree.lists
        (λ place h. here.parted.hands w place h ∙ mine));
    queues = agree.queues;
  }

  settled_same : (segment : ℕ) → on segment ≡ true → (place : ℕ) → on (segment_of place) ≡ true
      → settled m.state segment place ≡ settled k.state segment place
  settled_same segment o place at =
      ap (λ b. settled_by b (record_at m.state place)) (sent_same beside segment place o)
      ∙ ap (settled_by (is_sent_to k.state segment place)) (agree.state.records.at place at)

  take_both : (segment n : ℕ) → on segment ≡ true → Leave (event.Take segment) (answer.Taken n)
  take_both segment n o =
      let places = drained (remote_of k.lists segment) in
      let sent = drained_same segment agree.lists o here.filed in
      let each = all_then (λ p. segment_of p ≡ segment) (λ p. on (segment_of p) ≡ true)
      (λ p e. ap on e ∙ o) places (drained_filed k.lists segment here.filed) in
      with_both
      (records_on agree.state
      (maps_both _ _ (length k.state.records) (length m.state.records) agree.state.records.long
      (settled_same segment o)))
      (nothing_same agree.state segment
      (subst (λ ps. ListsOn on own (all_home k.state k.lists places) (all_home m.state m.lists ps))
      (sym sent) (homes_same agree.state places agree.lists each)))
      (ap (λ ps. all_placed m.state m.lists ps (queues_of m w)) sent
      ∙ all_placed_same agree.state places (queues_of m w) agree.lists each
      ∙ ap (all_placed k.state k.lists places) queues_same)

  cleared_same : (page : ℕ) → on (segment_of_page page) ≡ true
      → cleared m.state w page ≡ cleared k.state w page
  cleared_same page o =
      let segment = segment_of_page page in
      ap (λ h. if h && is_idle m.state page then None else class_at m.state page)
      (holding_same beside w mine segment)
      ∙ ap (λ i. if holds k.state w segment && i then None else class_at m.state page)
      (idle_same beside page o)
      ∙ ap (λ c. if holds k.state w segment && is_idle k.state page then None else c)
      (agree.state.classes.at page o)

  collect_both : (n : ℕ) → Leave event.Collect (answer.Pages n)
  collect_both n =
      let gone = collected_same beside w mine in
      with_both
      (classes_on agree.state
      (maps_both _ _ (length k.state.classes) (length m.state.classes) agree.state.classes.long
      cleared_same))
      (cleared_lists agree.state w agree.lists gone)
      (ap (λ f. map (filter (λ page. not (f page))) (queues_of m w)) gone
      ∙ ap (map (filter (λ page. not (is_collected k.state w page)))) queues_same)

  write_both : (actor : Actor) (handle : Handle) (index value : ℕ) → on handle.place.segment ≡ true
      → Leave (event.Write actor handle index value) answer.Done
  write_both actor handle index value o = record {
    state = record_both handle
        (λ r. record { generation = r.generation; life = write r.life index value }) o;
    lists = agree.lists;
    queues = agree.queues;
  }

  abandon_both : (segment : ℕ) → Leave (event.Abandon segment) answer.Done
  abandon_both segment =
      with_both
      (holders_on agree.state (set_both segment agree.state.holders refl)
      (filter-append on m.state.orphans (segment ∷ [])
      ∙ ap (λ xs. xs ++ filter on (segment ∷ [])) agree.state.orphans
      ∙ sym (filter-append on k.state.orphans (segment ∷ []))))
      agree.lists (ap (without_pages segment) queues_same)

  refill_both : (arena segment : ℕ) → on segment ≡ true
      → Leave (event.Refill arena) (answer.Refilled segment)
  refill_both arena segment o =
      let gone : ℕ → Bool = λ other. not (other == segment) in
      with_both
      (holders_on agree.state (set_both segment agree.state.holders refl)
      (without_same on gone m.state.orphans
      ∙ ap (filter gone) agree.state.orphans
      ∙ sym (without_same on gone k.state.orphans)))
      agree.lists
      (with_pages_same agree.state arena segment (queues_of m w) agree.lists o
      ∙ ap (with_pages k.state k.lists arena segment) queues_same)

  -- a served event of a worker of the side, which names what is of the side alone
  pub served_both : (e : Event) (a : Answer) → refusal k.state w e ≡ None
      → IsServed k.state w e a → Names on own true k.state e → Leave e a
  served_both (event.Alloc actor arena bytes) a none g o =
      subst (Leave (event.Alloc actor arena bytes)) (sym g.1)
      (alloc_both actor arena bytes g.0
      (sym (ap on (segment_is g.0.place))
      ∙ block_on here w mine arena (size_of bytes) (number_of g.0.place) g.2.room))
  served_both (event.Free actor handle) a none is o =
      elim (free_cases (holds k.state w handle.place.segment) a is) as
      (λ _. Leave (event.Free actor handle) a) [
        | inl done ↦
            subst (Leave (event.Free actor handle)) (sym done) (done_both actor handle (o refl))
        | inr away ↦
            subst (Leave (event.Free actor handle)) (sym away) (parted_both actor handle (o refl))
      ]
  served_both event.Deliver a none is o = subst (Leave event.Deliver) (sym is) deliver_both
  served_both (event.Take segment) a none is o =
      subst (Leave (event.Take segment)) (sym is)
      (take_both segment (count_by (is_sent_to k.state segment) (places_in k.state))
      (held_named here.parted w segment none ∙ mine))
  served_both event.Collect a none is o = subst (Leave event.Collect) (sym is)
      (collect_both (count_by (is_collected k.state w) (pages_in k.state)))
  served_both (event.Read actor handle index) a none is o =
      subst (Leave (event.Read actor handle index)) (sym is) agree
  served_both (event.Write actor handle index value) a none is o =
      subst (Leave (event.Write actor handle index value)) (sym is)
      (write_both actor handle index value (o refl))
  served_both (event.Look actor place) a none g o =
      subst (Leave (event.Look actor place)) (sym g.1) agree
  served_both (event.Abandon segment) a none is o =
      subst (Leave (event.Abandon segment)) (sym is) (abandon_both segment)
  served_both (event.Refill arena) a none g o =
      subst (Leave (event.Refill arena)) (sym g.1)
      (refill_both arena g.0 (o g.0 (next_in k.state arena g.0 g.2)))

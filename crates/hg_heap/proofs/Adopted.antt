-- A heap stays right where a segment comes to it.
use Rattle.std.proofs.Common.{◌≡◌, ℕ, ◌+◌, ◌*◌, ◌%◌, ◌<◌, ◌≤◌, inl, inr, ⊎_elim}
use Rattle.std.proofs.Common.{true, false, ◌&&◌, ◌∷◌, [], ◌++◌, List, length, reverse}
use Rattle.std.proofs.Common.{Option, Some, None, refl, sym, ap, subst, ◌∙◌, arith, slice_set}
use Rattle.std.proofs.Common.{slice_index, Contains}
use Rattle.std.proofs.Common.{option_map}
use Rattle.std.proofs.lemmas.Bool.{cases_eq, true≢false, eqb-true, eq-eqb}
use Rattle.std.proofs.lemmas.Bool.{and_parts, and_from}
use Rattle.std.proofs.lemmas.List.Sums.{sum_by_push}
use Rattle.std.proofs.lemmas.List.Elements.{Contains-append_left, Contains-append_right}
use Rattle.std.proofs.lemmas.List.Elements.{Contains-append_cases, Contains-push_cases}
use Rattle.hg_place.specs.declared.standing.Standing.{Standing}
use Rattle.hg_place.specs.Places.{segment_of_page}
use Rattle.hg_size.specs.Sizes.{number_of_size}
use Rattle.hg_size.specs.SizeLaws.{key_of}
use Rattle.hg_page.specs.PageLists.{listed}
use Rattle.hg_queue.specs.Queues.{queue_of, IsQueued, AreQueues}
use Rattle.hg_segment.specs.Kept.{Kept, class_at, lists_at}
use Rattle.hg_segment.specs.Right.{IsBlockPlace}
use Rattle.hg_segment.specs.Charges.{charge_of}
use Rattle.hg_heap.specs.Held.{is_held, segment_in, lists_on, lists_by, has_place}
use Rattle.hg_heap.specs.Charges.{charge_in}
use Rattle.hg_heap.specs.Queues.{AreQueued, key_on, key_by}
use Rattle.hg_heap.specs.Settled.{IsSettled}
use Rattle.hg_heap.specs.Right.{IsRight}
use Rattle.hg_heap.specs.Entering.{is_key_of, pages_of_key}
use Rattle.hg_heap.proofs.Chosen.{in_range}
use Rattle.hg_heap.proofs.SettledHeap.{some_first}
use Rattle.hg_heap.proofs.ChargeChanged.{charge_room}
use Rattle.hg_heap.proofs.Entered.{is_entering, entering, AreEntered, Contains-range}
use Rattle.hg_heap.proofs.Entered.{Contains-reverse, contained_reverse, pages_are}
use Rattle.hg_heap.proofs.OneMore.{none_yet, in_old, in_own, in_other, tabled_now}

is_key : (arena key : ℕ) (o : Option ℕ) → is_key_of arena o key ≡ true
    → option_map (λ size. key_of arena (number_of_size size)) o ≡ Some key
is_key arena key None e = absurd (true≢false (sym e))
is_key arena key (Some size) e = ap Some (eqb-true (key_of arena (number_of_size size)) key e)

classed : (o : Option ℕ) (index : ℕ) → IsBlockPlace o index → (size : ℕ) × (o ≡ Some size)
classed None index b = absurd b
classed (Some size) index b = (size, refl)

module _ {S : Type 0} (number : S → ℕ) (records : S → List Standing) where
  module _ (segments : List (Kept S)) (one : Kept S)
      (away : is_held number segments (number one.slots) ≡ false) where
    abbrev own : ℕ
    own = number one.slots

    abbrev with_one : List (Kept S)
    with_one = segments ++ one ∷ []

    -- the queues
    module _ (old new : List (List ℕ)) (n : ℕ) (whole : n ≡ 16)
        (entered : AreEntered one (own * 16) n old new)
        (queued : AreQueued number (record { segments = segments; queues = old }))
        (settled : IsSettled records one) where
      there_old : (page : ℕ) (k : Kept S) → segment_in number segments (segment_of_page page)
          ≡ Some k → has_place (lists_on number with_one page) ≡ true
          → (key : ℕ) × (key_on number with_one page ≡ Some key) × Contains (queue_of new key) page
      there_old page k e has =
          let more = in_old number records segments one away (segment_of_page page) k e in
          let same = ap (λ (o : Option (Kept S)). lists_by number o (page % 16)) e
          ∙ sym (ap (λ (o : Option (Kept S)). lists_by number o (page % 16)) more) in
          let t = queued.there page (ap has_place same ∙ has) in (
            t.0,
            (ap (λ (o : Option (Kept S)). key_by number o (page % 16)) more
                ∙ sym (ap (λ (o : Option (Kept S)). key_by number o (page % 16)) e) ∙ t.1),
            subst (λ (xs : List ℕ). Contains xs page) (sym (entered.each t.0))
                (Contains-append_right (reverse (entering one (own * 16) t.0 n)) (queue_of old t.0)
                page t.2),
          )

      there_own : (page : ℕ) → segment_of_page page ≡ own
          → has_place (lists_on number with_one page) ≡ true
          → (key : ℕ) × (key_on number with_one page ≡ Some key) × Contains (queue_of new key) page
      there_own page same has =
          let here = in_own number records segments one away (segment_of_page page) same in
          let low : page % 16 < 16 = omega arith in
          let place : has_place (lists_at one.lists (page % 16)) ≡ true =
          sym (ap (λ (o : Option (Kept S)). has_place (lists_by number o (page % 16))) here)
          ∙ has in
          let first = some_first (listed (lists_at one.lists (page % 16))) place in
          let c = classed (class_at one.classes (page % 16)) first.0
          (settled.listed (page % 16) first.0 low first.1) in
          let key = key_of one.arena (number_of_size c.0) in
          let its : is_entering one (own * 16) key page ≡ true =
          ap (λ (o : Option ℕ). is_key_of one.arena o key && has_place
          (lists_at one.lists (page % 16))) c.1
          ∙ and_from _ _ (eq-eqb key key refl) place in (
            key,
            (ap (λ (o : Option (Kept S)). key_by number o (page % 16)) here
                ∙ ap (option_map (λ (size : ℕ). key_of one.arena (number_of_size size))) c.1),
            subst (λ (xs : List ℕ). Contains xs page) (sym (entered.each key))
                (Contains-append_left (reverse (entering one (own * 16) key n)) (queue_of old key)
                page
                (Contains-reverse (entering one (own * 16) key n) page
                (Contains-range (is_entering one (own * 16) key) (own * 16) n page its
                (omega (arith, same)) (omega (arith, same, whole))))),
          )

      there_now : (page : ℕ) (o : Option (Kept S))
          → segment_in number segments (segment_of_page page) ≡ o
          → has_place (lists_on number with_one page) ≡ true
          → (key : ℕ) × (key_on number with_one page ≡ Some key) × Contains (queue_of new key) page
      there_now page (Some k) e has = there_old page k e has
      there_now page None e has = elim (cases_eq (segment_of_page page) own) [
        | inl same ↦ there_own page same has
        | inr ne ↦ absurd
            (true≢false (sym has
            ∙ ap (λ (o : Option (Kept S)). has_place (lists_by number o (page % 16)))
            (in_other number records segments one away (segment_of_page page) ne ∙ e)))
      ]

      only_old : (key page : ℕ) (o : Option (Kept S))
          → segment_in number segments (segment_of_page page) ≡ o → key_by number o (page % 16)
          ≡ Some key → has_place (lists_by number o (page % 16)) ≡ true
          → (key_on number with_one page ≡ Some key) × (has_place (lists_on number with_one page)
          ≡ true)
      only_old key page None e keyed has = absurd (cc)
      only_old key page (Some k) e keyed has =
          let more = in_old number records segments one away (segment_of_page page) k e in (
            ap (λ (o : Option (Kept S)). key_by number o (page % 16)) more ∙ keyed,
            ap (λ (o : Option (Kept S)). has_place (lists_by number o (page % 16))) more ∙ has,
          )

      only_own : (key page : ℕ) → Contains (entering one (own * 16) key n) page
          → (key_on number with_one page ≡ Some key) × (has_place (lists_on number with_one page)
          ≡ true)
      only_own key page c =
          let r = in_range (is_entering one (own * 16) key) (own * 16) n page c in
          let from = r.0 in
          let to = r.1 in
          let same : segment_of_page page ≡ own = omega (arith, from, to, whole) in
          let here = in_own number records segments one away (segment_of_page page) same in
          let its = and_parts _ _ r.2 in (
            ap (λ (o : Option (Kept S)). key_by number o (page % 16)) here
                ∙ is_key one.arena key (class_at one.classes (page % 16)) its.0,
            ap (λ (o : Option (Kept S)). has_place (lists_by number o (page % 16))) here ∙ its.1,
          )

      pub queued_with : AreQueued number (record { segments = with_one; queues = new })
      queued_with = record {
        queues = entered.queues;
        there = λ page has. there_now page (segment_in number segments (segment_of_page page)) refl
            has;
        only = λ key page c. ⊎_elim
            (λ mine. only_own key page (contained_reverse (entering one (own * 16) key n) page
            mine))
            (λ was. let q = queued.only key page was in only_old key page
            (segment_in number segments (segment_of_page page)) refl q.0 q.1)
            (Contains-append_cases (reverse (entering one (own * 16) key n)) (queue_of old key) page
            (subst (λ (xs : List ℕ). Contains xs page) (entered.each key) c));
      }

    -- no page of the segment stands in a queue before
    pub nowhere_yet : (old : List (List ℕ))
        → AreQueued number (record { segments = segments; queues = old }) → (page : ℕ)
        → segment_of_page page ≡ own → ¬ IsQueued old page
    nowhere_yet old queued page same on =
        let q = queued.only on.0 page on.1 in
        let none : segment_in number segments (segment_of_page page) ≡ None =
        ap (segment_in number segments) same ∙ none_yet number records segments one away in
        let nothing : None ≡ Some on.0 =
        sym (ap (λ (o : Option (Kept S)). key_by number o (page % 16)) none) ∙ q.0 in
        cc

    charge_with : (tenant : ℕ) → charge_in records with_one tenant ≡ charge_in records segments
        tenant + charge_of (records one.slots) one.classes tenant
    charge_with tenant =
        sum_by_push (λ (k : Kept S). charge_of (records k.slots) k.classes tenant) segments one

    module _ (table : List (Option ℕ)) (charges : List ℕ) (capacity : ℕ) (old : List (List ℕ))
        (low : own < 64) (settled : IsSettled records one)
        (r : IsRight number records table charges capacity
        (record { segments = segments; queues = old })) where
      settled_with : (k : Kept S) → Contains with_one k → IsSettled records k
      settled_with k c =
          ⊎_elim (λ was. r.settled k was) (λ s. subst (IsSettled records) s settled)
          (Contains-push_cases segments one k c)

      -- the charges have room for those of the segment
      pub room_for : ((s : S) → length (records s) ≡ 8192) → (tenant : ℕ) → tenant < 64
          → slice_index charges tenant + charge_of (records one.slots) one.classes
          tenant ≤ 18446744073709551615
      room_for long tenant below =
          let most = charge_room records number (slice_set table own (Some (length segments)))
          with_one tenant long (tabled_now number records segments one away table low r.tabled) settled_with in
          omega (arith, most, charge_with tenant, r.charged tenant below)

      right_with : (new : List (List ℕ)) (counted : List ℕ) (n : ℕ) → n ≡ 16 → one.arena < 16
          → AreEntered one (own * 16) n old new → length counted ≡ 64
          → ((tenant : ℕ) → tenant < 64 → slice_index counted tenant ≡ slice_index charges
          tenant + charge_of (records one.slots) one.classes tenant)
          → IsRight number records (slice_set table own (Some (length segments))) counted capacity
          (record { segments = with_one; queues = new })
      right_with new counted n whole arena entered all each = record {
        tabled = tabled_now number records segments one away table low r.tabled;
        room = r.room;
        settled = settled_with;
        arenas = λ k c. ⊎_elim (λ was. r.arenas k was)
            (λ s. subst (λ (x : Kept S). x.arena < 16) s arena)
            (Contains-push_cases segments one k c);
        queued = queued_with old new n whole entered r.queued settled;
        counted = all;
        charged = λ tenant below. each tenant below
            ∙ ap (λ (m : ℕ). m + charge_of (records one.slots) one.classes tenant)
            (r.charged tenant below) ∙ sym (charge_with tenant);
      }

      -- by the queues that the calls leave
      pub right_adopted : (new : List (List ℕ)) (counted : List ℕ) → one.arena < 16 → AreQueues new
          → ((key : ℕ) → queue_of new key ≡ reverse (pages_of_key number one key) ++ queue_of old
          key) → length counted ≡ 64
          → ((tenant : ℕ) → tenant < 64 → slice_index counted tenant ≡ slice_index charges
          tenant + charge_of (records one.slots) one.classes tenant)
          → IsRight number records (slice_set table own (Some (length segments))) counted capacity
          (record { segments = with_one; queues = new })
      right_adopted new counted arena are entered all each = go 16 refl
        where
          go : (n : ℕ) → n ≡ 16
              → IsRight number records (slice_set table own (Some (length segments))) counted
              capacity (record { segments = with_one; queues = new })
          go n whole = right_with new counted n whole arena
              (record {
                queues = are;
                each = λ key. entered key
                    ∙ ap (λ (xs : List ℕ). reverse xs ++ queue_of old key)
                    (pages_are number one key n (own * 16) whole refl);
              })
              all each

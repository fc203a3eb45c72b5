-- The lists of the page from which an Alloc gave a block, before and after.
use Rattle.std.proofs.Common.{◌≡◌, ℕ, ◌+◌, ◌*◌, ◌%◌, ◌<◌, ◌==◌, ◌&&◌, Bool, true, nat_lt, cond, []}
use Rattle.std.proofs.Common.{◌∷◌, List, filter, Option, Some, None, refl, sym, ap, subst, ◌∙◌}
use Rattle.std.proofs.Common.{arith, Contains}
use Rattle.std.specs.List.{range_with_len}
use Rattle.std.proofs.lemmas.Bool.{eq-eqb}
use Rattle.hg_place.specs.declared.Actor.{Actor}
use Rattle.hg_place.specs.declared.Handle.{Handle}
use Rattle.hg_place.specs.declared.plain.PlainWords.{PlainWords}
use Rattle.hg_place.specs.declared.standing.Standing.{Standing}
use Rattle.hg_place.specs.Plain.{plain_records}
use Rattle.hg_place.specs.Places.{page_number, page_of, segment_of, index_of, segment_of_page}
use Rattle.hg_place.specs.Standings.{standing_at}
use Rattle.hg_size.specs.Sizes.{places_of}
use Rattle.hg_size.proofs.Table.{places_small}
use Rattle.hg_page.specs.PageLists.{PageLists, fresh, listed}
use Rattle.hg_segment.specs.Kept.{Kept, class_at, lists_at, refilled, slot}
use Rattle.hg_segment.specs.Right.{is_vacant, vacant_in, HasVacant}
use Rattle.hg_segment.specs.Parted.{plain_number}
use Rattle.std.proofs.lemmas.Option.{none-some}
use Rattle.hg_size.specs.Runs.{may_begin}
use Rattle.hg_size.proofs.Covers.{begins_not}
use Rattle.hg_size.proofs.Within.{begins_within}
use Rattle.hg_machine.specs.Policy.{arena_of}
use Rattle.hg_machine.specs.State.{State, class_at as class_of_page}
use Rattle.hg_machine.specs.Holders.{holds, is_in_arena, is_number}
use Rattle.hg_machine.specs.Request.{size_of}
use Rattle.hg_machine.specs.Room.{suits, is_usable, is_open_to}
use Rattle.hg_heap.specs.Held.{Held, segment_in, lists_on as lists_in, lists_by as lists_had}
use Rattle.hg_heap.specs.Choice.{begun_or, blank_of, blank_by, blank_on, lists_for as lists_for_in}
use Rattle.hg_heap.proofs.ViewRoom.{open_by, found_one}
use Rattle.hg_heap.proofs.Chosen.{blank_there}
use Rattle.hg_agreement.specs.Parts.{Parts, state_of, lists_of, places_from}
use Rattle.hg_choice.specs.PageLists.{lists_on, popped}
use Rattle.hg_choice.specs.ListsAfter.{lists_for, given_from}
use Rattle.hg_events.specs.Core.{Core, parts_of, heap_of}
use Rattle.hg_events.specs.Own.{with_heap}
use Rattle.hg_chosen.proofs.Filters.{filter_same, filter_shift, filter_cut}
use Rattle.hg_chosen.proofs.HeapTold.{open_told}
use Rattle.hg_chosen.proofs.HeapLists.{numbered, lists_changed}
use Rattle.hg_chosen.proofs.Numbered.{same_page, numbered_told, class_told, arena_told}
use Rattle.hg_chosen.proofs.PoppedLists.{AreNumbered, popped_free, popped_local, none_listed}
use Rattle.hg_chosen.proofs.AllocPage.{IsAlloc, held, held_here, here, one as its_one, found as its_found}

vacant_none : (greatest : ℕ) (records : List Standing) (page : ℕ) (lists : PageLists) (o : Option ℕ)
    → o ≡ None → HasVacant greatest records page lists o → listed lists ≡ []
vacant_none greatest records page lists None k h = h
vacant_none greatest records page lists (Some n) k h = absurd (cc)

nil_cons : (x : ℕ) (xs : List ℕ) → [] ≡ x ∷ xs → ⊥
nil_cons x xs k = cc

module _ {core : Core} {worker : ℕ} {actor : Actor} {arena bytes : ℕ} {handle : Handle}
    {heap : Held PlainWords} (made : IsAlloc core worker actor arena bytes handle heap) where
  abbrev parts : Parts
  parts = parts_of core

  abbrev s : State
  s = state_of parts

  abbrev size : ℕ
  size = size_of bytes

  abbrev page : ℕ
  page = page_number handle.place

  abbrev old : List (Kept PlainWords)
  old = (heap_of core worker).segments

  abbrev one : Kept PlainWords
  one = its_one made

  found : segment_in plain_number old (segment_of_page page) ≡ Some one
  found = its_found made

  abbrev had : PageLists
  had = lists_in plain_number old page

  abbrev blanks : List ℕ
  blanks = blank_on plain_number plain_records old arena size page

  -- a place of a page without a class may have such a block as the segment says
  usable_told : may_begin (class_at one.classes) size (page % 16) ≡ true → one.arena ≡ arena
      → (i : ℕ) → i < 512 → is_usable s size (page * 512 + i)
      ≡ (nat_lt i (places_of size)
      && is_vacant one.greatest (standing_at (plain_records one.slots) (slot (page % 16) i)))
  usable_told may same i low =
      let p = page * 512 + i in
      let sg : segment_of p ≡ segment_of_page page = omega (arith, low) in
      let pg : page_of p ≡ page = omega (arith, low) in
      let ix : index_of p ≡ i = omega (arith, low) in
      let its_arena : (one.arena == arena) ≡ true = eq-eqb one.arena arena same in
      let usable = is_usable s size p in
      let may_here : may_begin (class_of_page s) size page ≡ true =
      begins_within (class_at one.classes) (class_of_page s) size page
      (λ q e. class_told core worker made.policy made.tidy made.below q one
      (ap (segment_in plain_number old) e ∙ found)) ∙ may in
      let left : is_open_to s worker arena size None p ≡ usable =
      ap (λ b. b && (is_in_arena s arena (segment_of p)
      && (suits (class_of_page s) size None (page_of p) && usable)))
      (ap (holds s worker) sg ∙ held_here made)
      ∙ ap (λ n. is_number arena (arena_of core.policy n)
      && (suits (class_of_page s) size None (page_of p) && usable)) sg
      ∙ ap (λ o. is_number arena o && (suits (class_of_page s) size None (page_of p) && usable))
      (arena_told core worker made.policy made.tidy made.below page one found)
      ∙ ap (λ b. b && (suits (class_of_page s) size None (page_of p) && usable)) its_arena
      ∙ ap (λ b. b && usable) (ap (may_begin (class_of_page s) size) pg ∙ may_here)
      in
      let right : open_by plain_number plain_records arena size None
      (segment_in plain_number old (segment_of p)) (page_of p % 16) (index_of p)
      ≡ (nat_lt i (places_of size)
      && is_vacant one.greatest (standing_at (plain_records one.slots) (slot (page % 16) i))) =
      rw (sg, pg, ix, found, its_arena, may) in
      sym left ∙ open_told core worker made.policy made.tidy made.below arena size None p ∙ right

  blanks_told : may_begin (class_at one.classes) size (page % 16) ≡ true → one.arena ≡ arena
      → filter (is_usable s size) (range_with_len (page * 512) 512)
      ≡ places_from (page * 512) (vacant_in one.greatest (plain_records one.slots) (page % 16)
      (places_of size))
  blanks_told may same =
      let q : ℕ → Bool =
      (λ i. is_vacant one.greatest (standing_at (plain_records one.slots) (slot (page % 16) i))) in
      let z : page * 512 ≡ page * 512 + 0 = omega arith in
      ap (λ n. filter (is_usable s size) (range_with_len n 512)) z
      ∙ filter_shift (is_usable s size) (page * 512) 0 512
      ∙ ap (places_from (page * 512))
      (
      filter_same (λ i. is_usable s size (page * 512 + i)) (λ i. nat_lt i (places_of size) && q i) 0
      512 (λ i a b. usable_told may same i (omega (arith, b)))
      ∙ filter_cut q (places_of size) 0 (places_of size) 512 (omega arith) (places_small size)
      )

  abbrev from_heap : PageLists
  from_heap = lists_for_in plain_number plain_records old arena size page

  -- the lists from which the place is taken, by numbers: of a page that has a class
  classed : (other : ℕ) → class_at one.classes (page % 16) ≡ Some other
      → AreNumbered (page * 512) (lists_on (lists_of parts) page) from_heap
  classed other e =
      let plain : from_heap ≡ had =
      ap (λ o. begun_or (blank_by plain_number plain_records arena size o (page % 16)) had) found
      ∙ ap (λ m. begun_or (blank_of plain_number plain_records arena size (page % 16) one m) had)
      (begins_not (class_at one.classes) size (page % 16) (λ m.
      none-some other (sym (m.none (page % 16) (omega arith) (omega arith)) ∙ e)))
      in
      let same = numbered_told core worker made.policy made.tidy made.below page one found in
      record {
        free = ap (λ l. l.free) same ∙ ap (λ l. places_from (page * 512) l.free) (sym plain);
        others = ap (λ l. l.local_free) same
            ∙ ap (λ l. places_from (page * 512) l.local_free) (sym plain);
      }

  -- one without a class has places
  some_blank : class_at one.classes (page % 16) ≡ None → blanks ≡ [] → ⊥
  some_blank e none =
      let f = found_one plain_number plain_records old (segment_of_page page) one found in
      let all = ((made.settled.each one f.0).lists (page % 16) (omega arith)).all in
      let empty : listed had ≡ [] =
      ap (λ o. listed (lists_had plain_number o (page % 16))) found
      ∙ vacant_none one.greatest (plain_records one.slots) (page % 16)
      (lists_at one.lists (page % 16)) (class_at one.classes (page % 16)) e all
      in
      let plain : from_heap ≡ had = ap (λ bs. begun_or bs had) none in
      let nothing : (refilled from_heap).free ≡ [] =
      ap (λ l. (refilled l).free) plain ∙ none_listed had empty in
      nil_cons handle.place.index _ (sym nothing ∙ made.given.lists.popped.free)

  -- and those are all that may have such a block
  begun_free : class_at one.classes (page % 16) ≡ None → (x : ℕ) (xs : List ℕ) → blanks ≡ x ∷ xs
      → filter (is_usable s size) (range_with_len (page * 512) 512)
      ≡ places_from (page * 512) blanks
  begun_free e x xs some =
      let on = blank_there plain_number plain_records (heap_of core worker) made.settled.queued
      made.settled.each arena size (page % 16) x (segment_in plain_number old (segment_of_page page))
      (subst (λ (ys : List ℕ). Contains ys x) (sym some) (0, omega arith, refl))
      in
      let same_one : on.k ≡ one = (let k : Some on.k ≡ Some one = sym on.is ∙ found in cc) in
      let same : one.arena ≡ arena = ap (λ k. k.arena) (sym same_one) ∙ on.arena_is in
      let may : may_begin (class_at one.classes) size (page % 16) ≡ true =
      ap (λ k. may_begin (class_at k.classes) size (page % 16)) (sym same_one) ∙ on.class in
      let blanks_are : blanks ≡ vacant_in one.greatest (plain_records one.slots) (page % 16)
      (places_of size) =
      ap (λ o. blank_by plain_number plain_records arena size o (page % 16)) found
      ∙ ap (blank_of plain_number plain_records arena size (page % 16) one) may
      ∙ ap (λ b. cond b (vacant_in one.greatest (plain_records one.slots) (page % 16)
      (places_of size)) []) (ap (λ n. n == arena) same ∙ eq-eqb arena arena refl)
      in
      blanks_told may same ∙ ap (places_from (page * 512)) (sym blanks_are)

  begun : (x : ℕ) (xs : List ℕ) → blanks ≡ x ∷ xs → (free : List ℕ)
      → free ≡ places_from (page * 512) blanks → AreNumbered (page * 512) (fresh free) from_heap
  begun x xs some free are =
      let plain : from_heap ≡ fresh blanks =
      ap (λ bs. begun_or bs had) some ∙ sym (ap fresh some) ∙ ap (λ bs. fresh bs) refl in
      record {
        free = are ∙ ap (λ l. places_from (page * 512) l.free) (sym plain);
        others = ap (λ l. places_from (page * 512) l.local_free) (sym plain);
      }

  unclassed : (bs : List ℕ) → blanks ≡ bs → class_at one.classes (page % 16) ≡ None
      → AreNumbered (page * 512) (lists_for s (lists_of parts) size page None) from_heap
  unclassed [] none e = absurd (some_blank e none)
  unclassed (x ∷ xs) some e = begun x xs some
      (filter (is_usable s size) (range_with_len (page * 512) 512)) (begun_free e x xs some)

  lists_numbered : (class : Option ℕ) → class_at one.classes (page % 16) ≡ class
      → AreNumbered (page * 512) (lists_for s (lists_of parts) size page class) from_heap
  lists_numbered (Some other) e = classed other e
  lists_numbered None e = unclassed blanks refl e

  pub lists_given : lists_of (parts_of (with_heap core worker heap))
      ≡ given_from s (lists_of parts) size page
  lists_given =
      let l = lists_of parts in
      let class = class_of_page s page in
      let x = lists_for s l size page class in
      let new = lists_in plain_number heap.segments page in
      let are = lists_numbered class (sym (class_told core worker made.policy made.tidy made.below page one found)) in
      lists_changed core worker heap made.tidy made.below made.served.1 (held made) page (here made) made.given.lists.others
      ∙ same_page l page (numbered page new) (popped (refilled x))
      (sym (popped_free (page * 512) handle.place.index x
      (lists_for_in plain_number plain_records old arena size page) new are made.given.lists.popped))
      (sym (popped_local (page * 512) handle.place.index x
      (lists_for_in plain_number plain_records old arena size page) new are made.given.lists.popped))

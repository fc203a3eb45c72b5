-- The free lists of pages: a place is on its page's, once, where it is free.
use Rattle.std.proofs.Common.{◌≡◌, ◌≢◌, ℕ, ◌+◌, ◌-◌, ◌*◌, ◌%◌, ◌<◌, ◌≤◌, Bool, true, false, not, nat_eq}
use Rattle.std.proofs.Common.{nat_lt, ◌&&◌, List, [], ◌++◌, length, slice_index_or, refl, sym, ap}
use Rattle.std.proofs.Common.{◌∙◌, arith, subst, inl, inr, ◌⊎◌, ⊎_elim}
use Rattle.std.specs.Prelude.{Option, Some, None, Contains}
use Rattle.std.proofs.lemmas.Bool.{cases_lt, cases_eq, and_right}
use Rattle.std.proofs.lemmas.Bool.Decides.{nat_tests}
use Rattle.std.proofs.lemmas.List.{get_or_past}
use Rattle.std.proofs.lemmas.List.FromFn.{length-map-range_with_len, get_or-map-range_with_len}
use Rattle.std.proofs.lemmas.List.Elements.{Contains-append_left, Contains-append_right}
use Rattle.hg_size.specs.Sizes.{places_of}
use Rattle.hg_lists.proofs.RepeatsLemmas.{nat_eq-same, nat_eq-other, in_cases, count_by-in}
use Rattle.hg_lists.proofs.RepeatsLemmas.{count_by-lacks, Contains-in, Contains-lacks}
use Rattle.hg_page.specs.PageLists.{PageLists, listed}
use Rattle.hg_place.specs.declared.standing.Standing.{Standing}
use Rattle.hg_place.specs.declared.standing.Standing.TheVariants.{Home, Open}
use Rattle.hg_place.specs.Words.{bit_of}
use Rattle.hg_place.specs.Places.{segment_of, segment_of_page, page_of, index_of}
use Rattle.hg_place.specs.Slots.{slot_in}
use Rattle.hg_place.specs.Standings.{standing_at, standing_generation, is_home}
use Rattle.hg_segment.specs.Kept.{lists_at}
use Rattle.hg_segment.specs.Right.{is_vacant, AreListsRight, IsBlockPlace}
use Rattle.hg_machine.specs.State.{State, record_at, class_at}
use Rattle.hg_machine.specs.Room.{is_usable}
use Rattle.hg_machine.specs.Lists.{Lists, times, list_at, free_in, is_free_as, is_free}
use Rattle.hg_agreement.specs.Holdings.{block_of, class_of}
use Rattle.hg_agreement.specs.Parts.{Plain, Parts, record_by, lists_by, state_of, free_of, local_of}
use Rattle.hg_agreement.specs.Parts.{lists_of, places_from}
use Rattle.hg_agreement.proofs.HeldLives.{held_home}
use Rattle.hg_parts.specs.Rights.{found_in, AreSegmentsRight}
use Rattle.hg_parts.proofs.Flat.{E}
use Rattle.hg_parts.proofs.Records.{found, right, plain_found, record_here, class_here, class_past}
use Rattle.hg_parts.proofs.Times.{times_append, times_shifted, times_away}

-- home and not worn, as the machine says it
vacant_is : (g : ℕ) (st : Standing)
    → (is_home st && not (is_home st && nat_eq (standing_generation st) g)) ≡ is_vacant g st
vacant_is g (Home n) = refl
vacant_is g (Open n o) = refl

-- an index on the lists of a page, by its class
count_listed : (g : ℕ) (rs : List Standing) (page index : ℕ) (class : Option ℕ) (lists : PageLists)
    → AreListsRight g rs page class lists → index < 512
    → ((size : ℕ) → class ≡ Some size → Contains (listed lists) index → index < places_of size)
    → (size : ℕ) → class ≡ Some size → times index (listed lists)
    ≡ bit_of (nat_lt index (places_of size) && is_vacant g (standing_at rs (page * 512 + index)))
count_listed g rs page index None lists h lt f size e = absurd (cc)
count_listed g rs page index (Some n) lists h lt f size e =
    let same : n ≡ size = grind (arith, e) in ⊎_elim
    (λ i. let on = Contains-in index (listed lists) i in
    let small : index < places_of size = f size e on in
    let one : nat_lt index (places_of size) ≡ true = grind (arith, nat_tests) in
    count_by-in index (listed lists) h.once i
    ∙ sym (ap (λ (b : Bool). bit_of (b && is_vacant g (standing_at rs (page * 512 + index)))) one
    ∙ ap bit_of (h.vacant index on).vacant))
    (λ l. count_by-lacks index (listed lists) l
    ∙ sym (no (nat_lt index (places_of size)) (is_vacant g (standing_at rs (page * 512 + index)))
    (λ a b.
    let small : index < places_of size = grind (arith, nat_tests) in
    Contains-lacks index (listed lists) l
    (h.all index (subst (λ (k : ℕ). index < places_of k) (sym same) small) b))))
    (in_cases index (listed lists))
  where
    no : (a b : Bool) → (a ≡ true → b ≡ true → ⊥) → bit_of (a && b) ≡ 0
    no true true f = absurd (f refl refl)
    no true false f = refl
    no false b f = refl

module _ (parts : Parts) (h : AreSegmentsRight parts) where
  abbrev pages : ℕ
  pages = length parts.policy.segments * 16

  abbrev state : State
  state = state_of parts

  abbrev lists : Lists
  lists = lists_of parts

  free_past : (page : ℕ) → pages ≤ page → free_in lists page ≡ []
  free_past page ge =
      let f = length-map-range_with_len (free_of parts) 0 pages in
      let l = length-map-range_with_len (local_of parts) 0 pages in
      let a : list_at lists.free page ≡ [] = get_or_past lists.free page [] (omega arith) in
      let b : list_at lists.local_free page ≡ [] =
      get_or_past lists.local_free page [] (omega arith) in
      cc

  free_found : (page : ℕ) (e : E) → page < pages
      → found_in parts (segment_of_page page) ≡ Some e
      → free_in lists page ≡ places_from (page * 512) (lists_at e.1.lists (page % 16)).free
      ++ places_from (page * 512) (lists_at e.1.lists (page % 16)).local_free
  free_found page e lt is =
      let one = plain_found parts h (segment_of_page page) e is in
      let free_at = get_or-map-range_with_len (free_of parts) 0 pages page page [] lt (omega arith)
      ∙ ap (λ (o : Option Plain). places_from (page * 512) (lists_by o (page % 16)).free) one in
      let local_at = get_or-map-range_with_len (local_of parts) 0 pages page page [] lt (omega arith)
      ∙ ap (λ (o : Option Plain). places_from (page * 512) (lists_by o (page % 16)).local_free)
      one in
      cc

  -- a place on its own page
  usable_is : (place size : ℕ) (s : Plain) → s.greatest ≡ parts.policy.max_generation
      → record_at state place ≡ record_by (Some s) (place % 8192)
      → is_usable state size place
      ≡ (nat_lt (index_of place) (places_of size)
      && is_vacant s.greatest (standing_at s.holding.standings (place % 8192)))
  usable_is place size s most is =
      let at = place % 8192 in let st = standing_at s.holding.standings at in
      let home = held_home (not (slot_in (slice_index_or s.slots at 0)).live) st
      (block_of s.holding at) in
      rw (is, home, ← most, vacant_is s.greatest st)

  own_free : (place : ℕ) (s : Plain) (class : Option ℕ) → s.greatest ≡ parts.policy.max_generation
      → record_at state place ≡ record_by (Some s) (place % 8192)
      → AreListsRight s.greatest s.holding.standings (page_of place % 16) class
      (lists_at s.lists (page_of place % 16))
      → ((size : ℕ) → class ≡ Some size → Contains (listed (lists_at s.lists (page_of place % 16)))
      (index_of place) → index_of place < places_of size)
      → times (index_of place) (listed (lists_at s.lists (page_of place % 16)))
      ≡ bit_of (is_free_as state place class)
  own_free place s None most is l f = ap (times (index_of place)) l.all
  own_free place s (Some size) most is l f =
      let at-is : page_of place % 16 * 512 + index_of place ≡ place % 8192 = omega arith in
      count_listed s.greatest s.holding.standings (page_of place % 16) (index_of place) (Some size)
      (lists_at s.lists (page_of place % 16)) l (omega arith) f size refl
      ∙ ap (λ (k : ℕ). bit_of (nat_lt (index_of place) (places_of size)
      && is_vacant s.greatest (standing_at s.holding.standings k))) at-is
      ∙ sym (ap bit_of (usable_is place size s most is))

  placed_in : (c : Option ℕ) (index : ℕ) → IsBlockPlace c index → (size : ℕ) → c ≡ Some size
      → index < places_of size
  placed_in None index on size e = absurd on
  placed_in (Some n) index on size e =
      let same : n ≡ size = grind (arith, e) in subst (λ (k : ℕ). index < places_of k) same on

  -- and on any page
  here : (place page : ℕ) (f : E) → page < pages → found_in parts (segment_of_page page) ≡ Some f
      → page_of place ≡ page
      → times place (free_in lists page) ≡ bit_of (is_free_as state place (class_at state page))
  here place page f lt is e =
      let s = f.1 in
      let sr = right parts h (segment_of_page page) f is in
      let own = page_of place % 16 in
      let low : page * 512 ≤ place = omega (arith, e) in
      let index-is : place - page * 512 ≡ index_of place = omega (arith, e) in
      let page-is : page % 16 ≡ own = ap (λ (k : ℕ). k % 16) (sym e) in
      let same : segment_of place ≡ segment_of_page page = omega (arith, e) in
      let class : class_at state page ≡ class_of s.holding own =
      class_here parts h page f lt is ∙ ap (class_of s.holding) page-is in
      let free : List ℕ = (lists_at s.lists own).free in
      let local : List ℕ = (lists_at s.lists own).local_free in
      let split : free_in lists page ≡ places_from (page * 512) free ++ places_from (page * 512) local =
      free_found page f lt is ∙ rw page-is in
      let listed_once = own_free place s (class_of s.holding own) sr.greatest
      (record_here parts h place f (omega (arith, lt, e)) (ap (found_in parts) same ∙ is))
      (sr.lists own (omega arith)) (λ size e on. placed_in (class_of s.holding own)
      (index_of place) (sr.listed own (index_of place) (omega arith) on) size e) in
      ap (times place) split
      ∙ times_append place (places_from (page * 512) free) (places_from (page * 512) local)
      ∙ rw (
        times_shifted (page * 512) place free low,
        times_shifted (page * 512) place local low,
        index-is,
        ← times_append (index_of place) free local,
      ) (listed_once ∙ rw class)

  elsewhere : (place page : ℕ) → page < pages → page_of place ≢ page
      → times place (free_in lists page) ≡ 0
  elsewhere place page lt ne =
      let f = found parts h (segment_of_page page) (omega (arith, lt)) in
      let s = f.0.1 in
      let L = lists_at s.lists (page % 16) in
      let l = (right parts h (segment_of_page page) f.0 f.1).lists (page % 16) (omega arith) in
      let out : (place < page * 512) ⊎ (page * 512 + 512 ≤ place) =
      elim (cases_lt place (page * 512)) [
        | inl low ↦ inl low
        | inr ge ↦ inr (omega (arith, ge, ne))
      ] in
      let a = times_away (page * 512) 512 place L.free
      (λ x c. (l.vacant x (Contains-append_left L.free L.local_free x c)).below) out in
      let b = times_away (page * 512) 512 place L.local_free
      (λ x c. (l.vacant x (Contains-append_right L.free L.local_free x c)).below) out in
      ap (times place) (free_found page f.0 lt f.1)
      ∙ times_append place (places_from (page * 512) L.free) (places_from (page * 512) L.local_free)
      ∙ omega (arith, a, b)

  pub free : (place page : ℕ)
      → times place (free_in lists page) ≡ bit_of (is_free state page place)
  free place page = elim (cases_lt page pages) [
    | inl lt ↦ elim (cases_eq (page_of place) page) [
      | inl e ↦
          let f = found parts h (segment_of_page page) (omega (arith, lt)) in
          let same : nat_eq (page_of place) page ≡ true = rw e (nat_eq-same page) in
          here place page f.0 lt f.1 e ∙ rw same
      | inr ne ↦ elsewhere place page lt ne ∙ rw (nat_eq-other (page_of place) page ne)
    ]
    | inr ge ↦ ap (times place) (free_past page ge)
        ∙ sym (ap bit_of (and_right (nat_eq (page_of place) page)
        (is_free_as state place (class_at state page))
        (ap (is_free_as state place) (class_past parts h page ge))))
  ]

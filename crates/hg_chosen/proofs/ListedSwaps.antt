-- The lists of a core's parts where a segment has changed where it stands.
use Rattle.std.proofs.Common.{◌≡◌, ◌≢◌, ℕ, ◌+◌, ◌*◌, ◌%◌, ◌<◌, ◌≤◌, Bool, true, false, nat_eq}
use Rattle.std.proofs.Common.{nat_lt, List, [], ◌∷◌, ◌++◌, length, map, count_by, slice_set, refl}
use Rattle.std.proofs.Common.{sym, ap, ◌∙◌, arith, inl, inr}
use Rattle.std.specs.Prelude.{Option, Some}
use Rattle.std.specs.List.{range_with_len}
use Rattle.std.proofs.lemmas.Bool.{cases_eq}
use Rattle.hg_lists.proofs.RepeatsLemmas.{nat_eq-same, nat_eq-other}
use Rattle.hg_place.specs.Places.{segment_of_page}
use Rattle.hg_page.specs.PageLists.{PageLists}
use Rattle.hg_segment.specs.Kept.{lists_at, returned}
use Rattle.hg_heap.specs.Held.{has_place, is_some_place}
use Rattle.hg_machine.specs.State.{Holder}
use Rattle.hg_machine.specs.Lists.{Lists, list_at}
use Rattle.hg_agreement.specs.Parts.{Plain, Parts, plain_of, lists_by, lists_of, free_of, local_of}
use Rattle.hg_agreement.specs.Parts.{places_from, lists_on as lists_in}
use Rattle.hg_agreement.proofs.Lookups.{maps, map_set}
use Rattle.hg_agreement.proofs.Told.{segments_are_told}
use Rattle.hg_parts.specs.Rights.{segments_in, is_numbered}
use Rattle.hg_parts.specs.Spots.{Spot, segment_at, with_segment}
use Rattle.hg_parts.specs.Tidy.{IsTidy}
use Rattle.hg_parts.proofs.Flat.{plain_in, plain_is}
use Rattle.hg_parts.proofs.SpotPuts.{spot_found}
use Rattle.hg_parts.proofs.Swaps.{Swaps, kept_swaps, swaps_counts, swaps_find, swaps_new}
use Rattle.hg_parts.proofs.Times.{bit_small}
use Rattle.hg_choice.specs.PageLists.{lists_on, with_page}

-- lists of a page's indexes, as places
abbrev pub as_places : ℕ → PageLists → PageLists
as_places page lists = record {
  free = places_from (page * 512) lists.free;
  local_free = places_from (page * 512) lists.local_free;
  used = [];
}

-- an index that comes home does so as a place
pub returned_place : (worn : Bool) (page index : ℕ) (lists : PageLists)
    → as_places page (returned worn lists index)
    ≡ returned worn (as_places page lists) (page * 512 + index)
returned_place true page index lists = refl
returned_place false page index lists = refl

some_moved : (f : ℕ → ℕ) (xs ys : List ℕ)
    → is_some_place (map f xs ++ map f ys) ≡ is_some_place (xs ++ ys)
some_moved f [] [] = refl
some_moved f [] (y ∷ ys) = refl
some_moved f (x ∷ xs) ys = refl

-- and there is a place as there is an index
pub has_as_places : (page : ℕ) (lists : PageLists)
    → has_place (as_places page lists) ≡ has_place lists
has_as_places page lists = some_moved (λ n. page * 512 + n) lists.free lists.local_free

-- parts with the same lists of pages and the same remote lists
pub alike : (parts : Parts) (heaps : List (List Plain)) (orphans fresh : List Plain)
    (hands : List (Option ℕ)) (queues : List (List (List ℕ)))
    → ((page : ℕ) → lists_in (record parts {
      heaps = heaps;
      orphans = orphans;
      fresh = fresh;
      hands = hands;
      queues = queues;
    }) page ≡ lists_in parts page)
    → lists_of (record parts {
      heaps = heaps;
      orphans = orphans;
      fresh = fresh;
      hands = hands;
      queues = queues;
    }) ≡ lists_of parts
alike parts heaps orphans fresh hands queues same =
    let new : Parts = record parts {
      heaps = heaps;
      orphans = orphans;
      fresh = fresh;
      hands = hands;
      queues = queues;
    } in
    let pages = range_with_len 0 (length parts.policy.segments * 16) in
    ap (λ (fs : List (List ℕ)). let x : Lists = record (lists_of new) { free = fs } in x)
    (maps (free_of new) (free_of parts) pages
    (λ page. ap (λ (l : PageLists). places_from (page * 512) l.free) (same page)))
    ∙ ap (λ (ls : List (List ℕ)). let x : Lists = record (lists_of parts) { local_free = ls } in x)
    (maps (local_of new) (local_of parts) pages
    (λ page. ap (λ (l : PageLists). places_from (page * 512) l.local_free) (same page)))

module _ (parts : Parts) (spot : Spot) (one : Plain) (hands : List (Option ℕ)) (t : IsTidy parts)
    (there : segment_at parts spot ≡ Some one) where
  abbrev n : ℕ
  n = one.holding.number

  -- the parts with this one there
  abbrev pub with_one : Plain → Parts
  with_one now = with_segment parts spot now hands

  pub inside : n < length parts.policy.segments
  inside = (spot_found parts spot one t there).0

  pub before : plain_of parts n ≡ Some one
  before = (spot_found parts spot one t there).1

  module _ (now : Plain) (number : now.holding.number ≡ n) where
    abbrev after : Parts
    after = with_one now

    swap : (h : Holder) × Swaps (h, one) (h, now) (segments_in parts) (segments_in after)
    swap = kept_swaps parts spot one now hands there

    some : 1 ≤ count_by (is_numbered n) (segments_in parts)
    some =
        swaps_counts (is_numbered n) (swap.0, one) (swap.0, now) (segments_in parts)
        (segments_in after) (nat_eq-same n) swap.1

    once : count_by (is_numbered n) (segments_in parts) ≡ 1
    once = omega (
      arith,
      some,
      t.segments.once n,
      bit_small (nat_lt n (length parts.policy.segments)),
    )

    -- it is the segment of its number, and the others are as they were
    pub here : plain_of after n ≡ Some now
    here =
        plain_is after n
        ∙ ap plain_in
        (swaps_new (is_numbered n) (swap.0, one) (swap.0, now) (segments_in parts)
        (segments_in after) (nat_eq-same n) (ap (λ k. nat_eq k n) number ∙ nat_eq-same n) once
        swap.1)

    pub other : (m : ℕ) → m ≢ n → plain_of after m ≡ plain_of parts m
    other m ne =
        let no : is_numbered m (swap.0, one) ≡ false = nat_eq-other n m (λ e. ne (sym e)) in
        plain_is after m
        ∙ sym (ap plain_in
        (swaps_find (is_numbered m) (swap.0, one) (swap.0, now) (segments_in parts)
        (segments_in after) no (ap (λ k. nat_eq k m) number ∙ no) swap.1))
        ∙ sym (plain_is parts m)

    -- the lists of a page of it, and of another segment's
    pub lists_here : (page : ℕ) → segment_of_page page ≡ n
        → lists_in after page ≡ lists_at now.lists (page % 16)
    lists_here page e =
        ap (λ k. lists_by (plain_of after k) (page % 16)) e
        ∙ ap (λ o. lists_by o (page % 16)) here

    pub lists_other : (page : ℕ) → segment_of_page page ≢ n
        → lists_in after page ≡ lists_in parts page
    lists_other page ne = ap (λ o. lists_by o (page % 16)) (other (segment_of_page page) ne)

    -- as places, what it is seen as tells of a page
    pub page_seen : (page : ℕ) → page < 16
        → lists_on (lists_of after) (n * 16 + page)
        ≡ as_places (n * 16 + page) (lists_at now.lists page)
    page_seen page low =
        let told = segments_are_told after n now inside here in
        ap (λ (xs : List ℕ). let x : PageLists = record {
          free = xs;
          local_free = list_at (lists_of after).local_free (n * 16 + page);
          used = [];
        } in x) (told.free page low)
        ∙ ap (λ (xs : List ℕ). let x : PageLists = record {
          free = places_from ((n * 16 + page) * 512) (lists_at now.lists page).free;
          local_free = xs;
          used = [];
        } in x) (told.local_free page low)

  lists_before : (page : ℕ) → segment_of_page page ≡ n
      → lists_in parts page ≡ lists_at one.lists (page % 16)
  lists_before page e =
      ap (λ k. lists_by (plain_of parts k) (page % 16)) e
      ∙ ap (λ o. lists_by o (page % 16)) before

  -- one that has the lists that it had
  pub same_lists : (now : Plain) → now.holding.number ≡ n
      → ((page : ℕ) → page < 16 → lists_at now.lists page ≡ lists_at one.lists page)
      → (page : ℕ) → lists_in (with_one now) page ≡ lists_in parts page
  same_lists now number keeps page =
      elim (cases_eq (segment_of_page page) n) [
        | inl e ↦
            lists_here now number page e ∙ keeps (page % 16) (omega arith)
            ∙ sym (lists_before page e)
        | inr ne ↦ lists_other now number page ne
      ]

  -- one that has others on one page, after another that was there
  module _ (mid now : Plain) (mid_number : mid.holding.number ≡ n)
      (number : now.holding.number ≡ n) (page : ℕ) (low : page < 16)
      (keeps :
      (p : ℕ) → p < 16 → p ≢ page → lists_at now.lists p ≡ lists_at mid.lists p) where
    abbrev q : ℕ
    q = n * 16 + page

    off_page : (p : ℕ) → p ≢ q → lists_in (with_one now) p ≡ lists_in (with_one mid) p
    off_page p ne =
        elim (cases_eq (segment_of_page p) n) [
          | inl e ↦
              lists_here now number p e
              ∙ keeps (p % 16) (omega arith) (λ f. ne (omega (arith, e, f)))
              ∙ sym (lists_here mid mid_number p e)
          | inr away ↦ lists_other now number p away ∙ sym (lists_other mid mid_number p away)
        ]

    on_page : lists_in (with_one now) q ≡ lists_at now.lists page
    on_page =
        lists_here now number q (omega (arith, low))
        ∙ ap (lists_at now.lists) (let m : q % 16 ≡ page = omega (arith, low) in m)

    below : q < length parts.policy.segments * 16
    below = omega (arith, low, inside)

    -- the lists are those with the page's
    pub page_put : lists_of (with_one now)
        ≡ with_page (lists_of (with_one mid)) q (as_places q (lists_at now.lists page))
    page_put =
        let count = length parts.policy.segments * 16 in
        let new = with_one now in
        let old = with_one mid in
        let range = range_with_len 0 count in
        ap (λ (fs : List (List ℕ)). let x : Lists = record (lists_of new) { free = fs } in x)
        (map_set (free_of old) (free_of new) count q [] below
        (λ p ne. ap (λ (l : PageLists). places_from (p * 512) l.free) (off_page p ne))
        ∙ ap (λ (l : PageLists). slice_set (map (free_of old) range) q
        (places_from (q * 512) l.free)) on_page)
        ∙ ap (λ (ls : List (List ℕ)). let x : Lists = record (lists_of new) {
          free = slice_set (map (free_of old) range) q
              (places_from (q * 512) (lists_at now.lists page).free);
          local_free = ls;
        } in x)
        (map_set (local_of old) (local_of new) count q [] below
        (λ p ne. ap (λ (l : PageLists). places_from (p * 512) l.local_free) (off_page p ne))
        ∙ ap (λ (l : PageLists). slice_set (map (local_of old) range) q
        (places_from (q * 512) l.local_free)) on_page)

-- A heap stays right where a segment has left it.
use Rattle.std.proofs.Common.{◌≡◌, ◌≢◌, ℕ, ◌+◌, ◌-◌, ◌%◌, ◌<◌, ◌≤◌, inl, inr, Bool, true, false}
use Rattle.std.proofs.Common.{not, cond, List, length, Option, Some, None, refl, sym, ap}
use Rattle.std.proofs.Common.{subst, ◌∙◌, arith, slice_set, slice_get, slice_index, slice_index_or}
use Rattle.std.proofs.Common.{get_or, filter, Contains, is_some, count_by, get_or-set_other}
use Rattle.std.proofs.Common.{get_or-set_same}
use Rattle.std.specs.Prelude.{swap_remove}
use Rattle.std.proofs.lemmas.Bool.{cases_eq, cases_lt, true≢false, eq-eqb, ne_eqb}
use Rattle.std.proofs.lemmas.List.{length-set}
use Rattle.std.proofs.lemmas.List.Sums.{sum_by-set}
use Rattle.std.proofs.lemmas.List.Sorted.{sum_by_popped}
use Rattle.hg_place.specs.declared.standing.Standing.{Standing}
use Rattle.hg_place.specs.Places.{segment_of_page}
use Rattle.hg_queue.specs.Queues.{queue_of, AreQueues}
use Rattle.hg_segment.specs.Kept.{Kept}
use Rattle.hg_segment.specs.Charges.{charge_of}
use Rattle.hg_heap.specs.Held.{is_held, segment_in, lists_on, lists_by, has_place}
use Rattle.hg_heap.specs.Charges.{charge_in}
use Rattle.hg_heap.specs.Found.{IsFoundAt}
use Rattle.hg_heap.specs.Table.{IsAt, IsTabled}
use Rattle.hg_heap.specs.Queues.{AreQueued, key_on, key_by}
use Rattle.hg_heap.specs.Releasing.{is_of_other, without_pages, without_by, without_segment}
use Rattle.hg_heap.specs.Right.{IsRight}
use Rattle.hg_heap.proofs.Options.{none_is}
use Rattle.hg_heap.proofs.Filtered.{filters_kept, queue_of-filters, contained_filter}
use Rattle.hg_heap.proofs.Filtered.{Contains-filter}
use Rattle.hg_heap.proofs.Founds.{Found, found_is, found_held, held_beyond, Contains-get}
use Rattle.hg_heap.proofs.Founds.{inside_of}
use Rattle.hg_heap.proofs.Gone.{rest, own, permuted, once_rest, was_there, other_number, gone}
use Rattle.hg_heap.proofs.Gone.{others, length_rest, moved_is, at_kept, in_of, found_there}

-- an entry counts for one, where there is one
abbrev counts : Option ℕ → ℕ
counts o = cond (is_some o) 1 0

module _ {S : Type 0} (number : S → ℕ) (records : S → List Standing) where
  -- there is no segment of a greater number
  pub low_held : ((s : S) → number s < 64) → (heap : List (Kept S)) (segment found : ℕ)
      → IsFoundAt number heap segment found → segment < 64
  low_held small heap segment found f = elim (cases_lt segment 64) [
    | inl lt ↦ lt
    | inr ge ↦ absurd (true≢false (sym (found_held number heap segment found f)
        ∙ held_beyond number small heap segment ge))
  ]

  -- no page of a segment that isn't held stands in a queue
  pub pages_kept : (heap : List (Kept S)) (queues : List (List ℕ)) (segment : ℕ)
      → is_held number heap segment ≡ false
      → AreQueued number (record { segments = heap; queues = queues })
      → queues ≡ without_pages segment queues
  pages_kept heap queues segment away queued =
      sym (filters_kept (is_of_other segment) queues (λ key page c.
      let q = queued.only key page c in
      ap not (ne_eqb (segment_of_page page) segment (λ e. (
      let none = none_is (segment_in number heap (segment_of_page page))
      (ap (is_held number heap) e ∙ away) in
      let nothing : None ≡ Some key =
      sym (ap (λ (o : Option (Kept S)). key_by number o (page % 16)) none) ∙ q.0 in
      cc)))))

  -- what is left, by the number of the one that has gone
  pub without_is : (heap : List (Kept S)) (segment found : ℕ) (one : Kept S)
      → Found number heap segment found one
      → swap_remove heap found one ≡ without_segment number heap segment
  without_is heap segment found one here =
      ap (λ (n : ℕ). swap_remove heap n one) here.first
      ∙ sym (ap (without_by number heap segment) (found_is number heap segment found one here))

  module _ (heap : List (Kept S)) (segment found : ℕ) (one : Kept S)
      (here : Found number heap segment found one) (table : List (Option ℕ)) (charges : List ℕ)
      (capacity : ℕ) (queues : List (List ℕ)) (small : (s : S) → number s < 64)
      (r : IsRight number records table charges capacity
      (record { segments = heap; queues = queues })) where
    abbrev left : List (Kept S)
    left = rest number heap segment found one here r.tabled.once

    low : segment < 64
    low = let n = small one.slots in let e = own number heap segment found one here r.tabled.once in
        omega (arith, n, e)

    -- the table
    entry_by : (s : ℕ) (k : Kept S) (o : Option ℕ) → segment_in number heap s ≡ Some k
        → IsAt number heap s o → is_some o ≡ true
    entry_by s k None e h = absurd (true≢false (sym (ap is_some e) ∙ h))
    entry_by s k (Some at) e h = refl

    entry : (s : ℕ) (k : Kept S) → s < 64 → segment_in number heap s ≡ Some k
        → is_some (get_or table s None) ≡ true
    entry s k below e = entry_by s k (slice_index_or table s None) e (r.tabled.each s below)

    abbrev cleared : List (Option ℕ)
    cleared = slice_set table segment None

    fewer : count_by is_some cleared + 1 ≡ count_by is_some table
    fewer =
        let less = sum_by-set counts table segment None None
        (let a = r.tabled.all in let l = low in omega (arith, l, a)) in
        let one_less : counts (get_or table segment None) ≡ 1 =
        ap (λ (b : Bool). cond b 1 0)
        (entry segment one low (found_is number heap segment found one here)) in
        omega (arith, less, one_less)

    at_own : IsAt number left segment None
    at_own = ap is_some (gone number heap segment found one here r.tabled.once)

    -- where it stood last itself
    pub tabled_last : length left ≤ found → IsTabled number cleared left
    tabled_last past = record {
      all = length-set table segment None ∙ r.tabled.all;
      each = λ s below. elim (cases_eq s segment) [
        | inl e ↦ subst (λ (n : ℕ). IsAt number left n (slice_index_or cleared n None)) (sym e)
            (subst (IsAt number left segment)
            (sym (get_or-set_same table segment None None
            (let a = r.tabled.all in let l = low in omega (arith, l, a)))) at_own)
        | inr ne ↦ subst (IsAt number left s) (sym (get_or-set_other table segment s None None ne))
            (at_kept number heap segment found one here r.tabled.once s
            (slice_index_or table s None) ne (λ j e n. ne (
            let is_last : found ≡ length heap - 1 =
            (let l = length_rest number heap segment found one here r.tabled.once in
            let i = inside_of heap found one here.at in omega (arith, past, l, i)) in
            let same : Some j ≡ Some one =
            sym e ∙ ap (slice_get heap) (sym is_last) ∙ here.at in
            let is : j ≡ one = cc in
            sym n ∙ ap (λ (k : Kept S). number k.slots) is
            ∙ own number heap segment found one here r.tabled.once))
            (r.tabled.each s below))
      ];
      many = (
          let f = fewer in
          let m = r.tabled.many in
          let l = length_rest number heap segment found one here r.tabled.once in
          omega (arith, f, m, l));
      once = once_rest number heap segment found one here r.tabled.once;
    }

    -- where the last stands in its place now
    module _ (moved : Kept S) (there : slice_get left found ≡ Some moved) where
      abbrev its : ℕ
      its = number moved.slots

      moved_left : Contains left moved
      moved_left = Contains-get left found moved there

      its_other : its ≢ segment
      its_other = other_number number heap segment found one here r.tabled.once moved moved_left

      moved_in : segment_in number heap its ≡ Some moved
      moved_in = in_of number heap moved r.tabled.once
          (was_there number heap segment found one here r.tabled.once moved moved_left)

      abbrev tabled : List (Option ℕ)
      tabled = slice_set cleared its (Some found)

      as_many : count_by is_some tabled ≡ count_by is_some cleared
      as_many =
          let b = small moved.slots in
          let a = r.tabled.all in
          let l = length-set table segment None in
          let more = sum_by-set counts cleared its (Some found)
          None (omega (arith, b, a, l)) in
          let was : counts (get_or cleared its None) ≡ 1 =
          ap counts
          (get_or-set_other table segment its None None its_other)
          ∙ ap (λ (c : Bool). cond c 1 0) (entry its moved b moved_in) in
          omega (arith, more, was)

      at_its : IsAt number left its (Some found)
      at_its =
          let f = found_there number left found moved
          (once_rest number heap segment found one here r.tabled.once) there in
          (inside_of left found moved there, f.first)

      at_other : (s : ℕ) → s < 64 → s ≢ its → IsAt number left s (slice_index_or cleared s None)
      at_other s below away = elim (cases_eq s segment) [
        | inl e ↦ subst (λ (n : ℕ). IsAt number left n (slice_index_or cleared n None)) (sym e)
            (subst (IsAt number left segment)
            (sym (get_or-set_same table segment None None
            (let a = r.tabled.all in let l = low in omega (arith, l, a)))) at_own)
        | inr ne ↦ subst (IsAt number left s) (sym (get_or-set_other table segment s None None ne))
            (at_kept number heap segment found one here r.tabled.once s
            (slice_index_or table s None) ne (λ j e n. away (
            let same : Some j ≡ Some moved =
            sym e ∙ moved_is number heap segment found one here r.tabled.once moved there in
            let is : j ≡ moved = cc in
            sym n ∙ ap (λ (k : Kept S). number k.slots) is)) (r.tabled.each s below))
      ]

      pub tabled_moved : IsTabled number tabled left
      tabled_moved = record {
        all = length-set cleared its (Some found) ∙ length-set table segment None ∙ r.tabled.all;
        each = λ s below. elim (cases_eq s its) [
          | inl e ↦ subst (λ (n : ℕ). IsAt number left n (slice_index_or tabled n None)) (sym e)
              (subst (IsAt number left its)
              (sym (get_or-set_same cleared its (Some found) None
              (let b = small moved.slots in let a = r.tabled.all in
              let l = length-set table segment None in omega (arith, b, a, l)))) at_its)
          | inr ne ↦ subst (IsAt number left s)
              (sym (get_or-set_other cleared its s (Some found) None ne)) (at_other s below ne)
        ];
        many = (
            let s = as_many in
            let f = fewer in
            let m = r.tabled.many in
            let l = length_rest number heap segment found one here r.tabled.once in
            omega (arith, s, f, m, l));
        once = once_rest number heap segment found one here r.tabled.once;
      }

    -- the charges
    pub charge_left : (tenant : ℕ) → charge_in records left tenant
        + charge_of (records one.slots) one.classes tenant ≡ charge_in records heap tenant
    charge_left tenant =
        sum_by_popped (λ (k : Kept S). charge_of (records k.slots) k.classes tenant) one heap left
        (permuted number heap segment found one here r.tabled.once)

    pub charge_most : (tenant : ℕ) → tenant < 64
        → charge_of (records one.slots) one.classes tenant ≤ slice_index charges tenant
    charge_most tenant below =
        let c = charge_left tenant in
        let e = r.charged tenant below in
        omega (arith, c, e)

    -- the queues
    same : (page : ℕ) → segment_of_page page ≢ segment
        → segment_in number left (segment_of_page page)
        ≡ segment_in number heap (segment_of_page page)
    same page ne =
        others number heap segment found one here r.tabled.once (segment_of_page page) ne

    module _ (new : List (List ℕ)) (is : new ≡ without_pages segment queues) where
      of_key : (key : ℕ) → queue_of new key ≡ filter (is_of_other segment) (queue_of queues key)
      of_key key = ap (λ (qs : List (List ℕ)). queue_of qs key) is
          ∙ queue_of-filters (is_of_other segment) queues key

      there_now : (page : ℕ) → has_place (lists_on number left page) ≡ true
          → (key : ℕ) × (key_on number left page ≡ Some key) × Contains (queue_of new key) page
      there_now page has = elim (cases_eq (segment_of_page page) segment) [
        | inl e ↦ absurd
            (true≢false (sym has
            ∙ ap (λ (o : Option (Kept S)). has_place (lists_by number o (page % 16)))
            (ap (segment_in number left) e
            ∙ gone number heap segment found one here r.tabled.once)))
        | inr ne ↦ (
            let was = r.queued.there page
            (sym (ap (λ (o : Option (Kept S)). has_place (lists_by number o (page % 16)))
            (same page ne)) ∙ has) in (
              was.0,
              ap (λ (o : Option (Kept S)). key_by number o (page % 16)) (same page ne) ∙ was.1,
              subst (λ (xs : List ℕ). Contains xs page) (sym (of_key was.0))
                  (Contains-filter (is_of_other segment) page (queue_of queues was.0)
                  (ap not (ne_eqb (segment_of_page page) segment ne)) was.2),
            ))
      ]

      only_now : (key page : ℕ) → Contains (queue_of new key) page
          → (key_on number left page ≡ Some key) × (has_place (lists_on number left page) ≡ true)
      only_now key page c =
          let f = contained_filter (is_of_other segment) page (queue_of queues key)
          (subst (λ (xs : List ℕ). Contains xs page) (of_key key) c) in
          let ne : segment_of_page page ≢ segment =
          λ e. true≢false (sym f.0 ∙ ap not (eq-eqb (segment_of_page page) segment e)) in
          let q = r.queued.only key page f.1 in (
            ap (λ (o : Option (Kept S)). key_by number o (page % 16)) (same page ne) ∙ q.0,
            ap (λ (o : Option (Kept S)). has_place (lists_by number o (page % 16))) (same page ne)
                ∙ q.1,
          )

      -- by the queues and the charges that the calls leave
      pub right_left : AreQueues new → (counted : List ℕ) → length counted ≡ 64
          → ((tenant : ℕ) → tenant < 64 → slice_index counted tenant
          ≡ slice_index charges tenant - charge_of (records one.slots) one.classes tenant)
          → (tabled : List (Option ℕ)) → IsTabled number tabled left
          → IsRight number records tabled counted capacity
          (record { segments = left; queues = new })
      right_left are counted all each tabled t = record {
        tabled = t;
        room = r.room;
        settled = λ k c. r.settled k
            (was_there number heap segment found one here r.tabled.once k c);
        arenas = λ k c. r.arenas k
            (was_there number heap segment found one here r.tabled.once k c);
        queued = record { queues = are; there = there_now; only = only_now };
        counted = all;
        charged = λ tenant below. (
            let c = charge_left tenant in
            let e = r.charged tenant below in
            let n = each tenant below in
            omega (arith, c, e, n));
      }

-- The lists of a core of which one heap has changed.
use Rattle.std.proofs.Common.{◌≡◌, ◌≢◌, ℕ, ◌*◌, ◌%◌, ◌<◌, inl, inr, Bool, true, false, [], List}
use Rattle.std.proofs.Common.{map, length, set, Option, Some, None, refl, sym, ap, ◌∙◌, arith, find}
use Rattle.std.proofs.Common.{is_some}
use Rattle.std.proofs.Math.Path.{fun_ext}
use Rattle.std.specs.List.{range_with_len}
use Rattle.std.specs.Option.{option_map}
use Rattle.std.proofs.lemmas.Bool.{cases_eq, true≢false}
use Rattle.std.proofs.lemmas.Grind.{get_or-set_at}
use Rattle.std.proofs.lemmas.List.{same_lists, length-set, length-map, get_or-set_other}
use Rattle.std.proofs.lemmas.List.FromFn.{length-map-range_with_len, get_or-map-range_with_len}
use Rattle.hg_place.specs.declared.plain.PlainWords.{PlainWords}
use Rattle.hg_place.specs.Places.{segment_of_page}
use Rattle.hg_page.specs.PageLists.{PageLists}
use Rattle.hg_segment.specs.Kept.{Kept}
use Rattle.hg_segment.specs.Parted.{plain_number}
use Rattle.hg_heap.specs.Held.{Held, segment_in, is_held, KeepsLists, lists_on as lists_in}
use Rattle.hg_heap.specs.Held.{lists_by as lists_had}
use Rattle.hg_heap.proofs.Options.{none_is}
use Rattle.hg_agreement.specs.Parts.{Plain, Parts, plain_of, plain_by, plain_from, worker_of}
use Rattle.hg_agreement.specs.Parts.{heap_at, holdings, is_of, lists_on, lists_by, lists_of}
use Rattle.hg_agreement.specs.Parts.{places_from, all_pages}
use Rattle.hg_agreement.specs.Holdings.{has}
use Rattle.hg_parts.specs.Tidy.{IsTidy}
use Rattle.hg_choice.specs.PageLists.{with_page}
use Rattle.hg_events.specs.Core.{Core, parts_of, heap_of, nothing_held}
use Rattle.hg_events.specs.Own.{with_heap}
use Rattle.hg_events.proofs.Told.{heap_told, found_told}
use Rattle.hg_events.proofs.WordAt.{had_held, heap_segment}

-- the lists of a page whose segment a heap has
pub some_is : (o : Option (Kept PlainWords)) → is_some o ≡ true
    → (one : Kept PlainWords) × (o ≡ Some one)
some_is None e = absurd (true≢false (sym e))
some_is (Some one) e = (one, refl)

pub lists_held : (core : Core) (worker page : ℕ) → IsTidy (parts_of core)
    → is_held plain_number (heap_of core worker).segments (segment_of_page page) ≡ true
    → lists_on (parts_of core) page ≡ lists_in plain_number (heap_of core worker).segments page
lists_held core worker page t held =
    let found =
    some_is (segment_in plain_number (heap_of core worker).segments (segment_of_page page)) held in
    ap (λ o. lists_by o (page % 16)) (heap_segment core worker (segment_of_page page) found.0 t
    found.1)
    ∙ sym (ap (λ o. lists_had plain_number o (page % 16)) found.1)

-- the heap of a worker in place of which another one came
pub heap_now : (core : Core) (worker : ℕ) (heap : Held PlainWords) → worker < length core.heaps
    → heap_of (with_heap core worker heap) worker ≡ heap
heap_now core worker heap below =
    get_or-set_at core.heaps worker worker heap nothing_held refl below

pub heap_else : (core : Core) (worker other : ℕ) (heap : Held PlainWords) → other ≢ worker
    → heap_of (with_heap core worker heap) other ≡ heap_of core other
heap_else core worker other heap ne = get_or-set_other core.heaps worker other heap nothing_held ne

-- lists by page
pub same_pages : (parts other : Parts) → ((page : ℕ) → lists_on other page ≡ lists_on parts page)
    → map (λ page. places_from (page * 512) (lists_on other page).free) (all_pages parts)
    ≡ (lists_of parts).free
same_pages parts other each =
    ap (λ (on : ℕ → PageLists). map (λ page. places_from (page * 512) (on page).free)
    (all_pages parts)) (fun_ext each)

pub same_locals : (parts other : Parts) → ((page : ℕ) → lists_on other page ≡ lists_on parts page)
    → map (λ page. places_from (page * 512) (lists_on other page).local_free) (all_pages parts)
    ≡ (lists_of parts).local_free
same_locals parts other each =
    ap (λ (on : ℕ → PageLists). map (λ page. places_from (page * 512) (on page).local_free)
    (all_pages parts)) (fun_ext each)

-- one entry of a list by numbers has changed
pub one_changed : (F G : ℕ → List ℕ) (n page : ℕ) → ((other : ℕ) → other ≢ page → F other ≡ G other)
    → map F (range_with_len 0 n) ≡ set (map G (range_with_len 0 n)) page (F page)
one_changed F G n page others =
    let long = length-map-range_with_len F 0 n in
    let short = length-map-range_with_len G 0 n in
    let put = length-set (map G (range_with_len 0 n)) page (F page) in
    same_lists _ _ (long ∙ sym (put ∙ short)) λ k d below.
    let inside : k < n = omega (arith, below, long) in
    elim (cases_eq k page) [
      | inl here ↦
          get_or-map-range_with_len F 0 n k k d inside (omega arith)
          ∙ ap F here
          ∙ sym (get_or-set_at (map G (range_with_len 0 n)) page k (F page) d here
          (omega (arith, inside, short, here)))
      | inr away ↦
          get_or-map-range_with_len F 0 n k k d inside (omega arith)
          ∙ others k away
          ∙ sym (get_or-map-range_with_len G 0 n k k d inside (omega arith))
          ∙ sym (get_or-set_other (map G (range_with_len 0 n)) page k (F page) d away)
    ]

-- places of a page by their numbers
abbrev pub numbered : ℕ → PageLists → PageLists
numbered page l =
    record {
      free = places_from (page * 512) l.free;
      local_free = places_from (page * 512) l.local_free;
      used = [];
    }

module _ (core : Core) (worker : ℕ) (heap : Held PlainWords) (t : IsTidy (parts_of core))
    (below : worker < length core.heaps)
    (after : IsTidy (parts_of (with_heap core worker heap)))
    (held : (n : ℕ) → is_held plain_number heap.segments n
    ≡ is_held plain_number (heap_of core worker).segments n) where
  abbrev parts : Parts
  parts = parts_of core

  abbrev now : Parts
  now = parts_of (with_heap core worker heap)

  had_same : (n other : ℕ) → has (holdings (heap_at now other)) n
      ≡ has (holdings (heap_at parts other)) n
  had_same n other =
      had_held (with_heap core worker heap) other n
      ∙ elim (cases_eq other worker) [
        | inl same ↦
            ap (λ w. is_held plain_number (heap_of (with_heap core worker heap) w).segments n) same
            ∙ ap (λ h. is_held plain_number h.segments n) (heap_now core worker heap below)
            ∙ held n
            ∙ sym (ap (λ w. is_held plain_number (heap_of core w).segments n) same)
        | inr ne ↦ ap (λ h. is_held plain_number h.segments n) (heap_else core worker other heap ne)
      ]
      ∙ sym (had_held core other n)

  worker_same : (n : ℕ) → worker_of now n ≡ worker_of parts n
  worker_same n =
      let plains : Held PlainWords → List Plain = (λ h. map plain_from h.segments) in
      let as_many : length now.heaps ≡ length parts.heaps =
      length-map (set core.heaps worker heap) plains ∙ length-set core.heaps worker heap
      ∙ sym (length-map core.heaps plains)
      in
      ap (λ f. find f (range_with_len 0 (length now.heaps))) (fun_ext (had_same n))
      ∙ ap (λ m. find (λ w. has (holdings (heap_at parts w)) n) (range_with_len 0 m)) as_many

  -- a segment that the heap hasn't stands where it stood
  pub plain_away : (n : ℕ) → is_held plain_number (heap_of core worker).segments n ≡ false
      → plain_of now n ≡ plain_of parts n
  plain_away n away = ap (plain_by now n) (worker_same n) ∙ by (worker_of parts n)
    where
      none_in : (h : Held PlainWords) → is_held plain_number h.segments n ≡ false
          → find (is_of n) (map plain_from h.segments) ≡ None
      none_in h e = found_told n h.segments
          ∙ ap (option_map plain_from) (none_is (segment_in plain_number h.segments n) e)

      by : (o : Option ℕ) → plain_by now n o ≡ plain_by parts n o
      by None = refl
      by (Some other) =
          ap (find (is_of n)) (heap_told (with_heap core worker heap) other)
          ∙ elim (cases_eq other worker) [
            | inl same ↦
                ap (λ w. find (is_of n) (map plain_from (heap_of (with_heap core worker heap)
                w).segments)) same
                ∙ ap (λ h. find (is_of n) (map plain_from h.segments))
                (heap_now core worker heap below)
                ∙ none_in heap (held n ∙ away)
                ∙ sym (none_in (heap_of core worker) away)
                ∙ sym (ap (λ w. find (is_of n) (map plain_from (heap_of core w).segments)) same)
            | inr ne ↦ ap (λ h. find (is_of n) (map plain_from h.segments))
                (heap_else core worker other heap ne)
          ]
          ∙ sym (ap (find (is_of n)) (heap_told core other))

  pub lists_away : (page : ℕ)
      → is_held plain_number (heap_of core worker).segments (segment_of_page page) ≡ false
      → lists_on now page ≡ lists_on parts page
  lists_away page away = ap (λ o. lists_by o (page % 16)) (plain_away (segment_of_page page) away)

  pub lists_here : (page : ℕ)
      → is_held plain_number (heap_of core worker).segments (segment_of_page page) ≡ true
      → lists_on now page ≡ lists_in plain_number heap.segments page
  lists_here page here =
      let same = heap_now core worker heap below in
      lists_held (with_heap core worker heap) worker page after
      (ap (λ h. is_held plain_number h.segments (segment_of_page page)) same
      ∙ held (segment_of_page page) ∙ here)
      ∙ ap (λ h. lists_in plain_number h.segments page) same

  page_same : (page : ℕ) (b : Bool)
      → is_held plain_number (heap_of core worker).segments (segment_of_page page) ≡ b
      → lists_in plain_number heap.segments page
      ≡ lists_in plain_number (heap_of core worker).segments page
      → lists_on now page ≡ lists_on parts page
  page_same page true here same =
      lists_here page here ∙ same ∙ sym (lists_held core worker page t here)
  page_same page false away same = lists_away page away

  -- where the heap keeps all lists, so does the core
  pub lists_kept : KeepsLists plain_number (heap_of core worker).segments heap.segments
      → lists_of now ≡ lists_of parts
  lists_kept keeps =
      let each : (page : ℕ) → lists_on now page ≡ lists_on parts page =
      (λ page. page_same page _ refl (keeps page)) in
      ap (λ fs. record (lists_of now) { free = fs }) (same_pages parts now each)
      ∙ ap (λ fs. record (lists_of parts) { local_free = fs }) (same_locals parts now each)

  -- where it keeps those of other pages, so does the core
  pub lists_changed : (page : ℕ)
      → is_held plain_number (heap_of core worker).segments (segment_of_page page) ≡ true
      → ((other : ℕ) → other ≢ page
      → lists_in plain_number heap.segments other
      ≡ lists_in plain_number (heap_of core worker).segments other)
      → lists_of now ≡ with_page (lists_of parts) page
      (numbered page (lists_in plain_number heap.segments page))
  lists_changed page here keeps =
      let others : (other : ℕ) → other ≢ page → lists_on now other ≡ lists_on parts other =
      (λ other ne. page_same other _ refl (keeps other ne)) in
      let n = length core.policy.segments * 16 in
      let at = lists_here page here in
      ap (λ fs. record (lists_of now) { free = fs })
      (
      one_changed (λ p. places_from (p * 512) (lists_on now p).free)
      (λ p. places_from (p * 512) (lists_on parts p).free) n page
      (λ other ne. ap (λ l. places_from (other * 512) l.free) (others other ne))
      ∙ ap (λ l. set (lists_of parts).free page (places_from (page * 512) l.free)) at
      )
      ∙ ap (λ fs. record (lists_of now) {
        free = set (lists_of parts).free page
            (places_from (page * 512) (lists_in plain_number heap.segments page).free);
        local_free = fs;
      })
      (
      one_changed (λ p. places_from (p * 512) (lists_on now p).local_free)
      (λ p. places_from (p * 512) (lists_on parts p).local_free) n page
      (λ other ne. ap (λ l. places_from (other * 512) l.local_free) (others other ne))
      ∙ ap (λ l. set (lists_of parts).local_free page (places_from (page * 512) l.local_free)) at
      )

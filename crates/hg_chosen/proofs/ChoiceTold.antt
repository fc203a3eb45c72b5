-- The order of choice of a heap, told of its core.
use Rattle.std.proofs.Common.{◌≡◌, ℕ, ◌+◌, ◌*◌, ◌%◌, ◌<◌, ◌≤◌, ◌==◌, inl, inr, Bool, true, false}
use Rattle.std.proofs.Common.{cond, [], ◌∷◌, List, length, Option, Some, None, refl, sym, ap, subst}
use Rattle.std.proofs.Common.{◌∙◌, arith, find, slice_get, Contains}
use Rattle.std.specs.List.{range_with_len}
use Rattle.std.proofs.lemmas.Bool.{cases_eq, lt-ltb, eq-eqb, and_from, false_from_ne_true}
use Rattle.std.proofs.lemmas.Bool.{true≢false}
use Rattle.hg_place.specs.declared.plain.PlainWords.{PlainWords}
use Rattle.hg_place.specs.Plain.{plain_records}
use Rattle.hg_place.specs.Places.{segment_of, segment_of_page, page_of, index_of}
use Rattle.hg_place.specs.Standings.{standing_at}
use Rattle.hg_size.specs.Sizes.{sizes, places_of, number_of_size}
use Rattle.hg_size.specs.SizeLaws.{key_of}
use Rattle.hg_page.specs.PageLists.{PageLists}
use Rattle.hg_segment.specs.Kept.{lists_at, slot}
use Rattle.hg_segment.specs.Right.{is_vacant, vacant_in}
use Rattle.hg_segment.specs.Parted.{plain_number}
use Rattle.hg_size.proofs.Table.{places_small}
use Rattle.hg_queue.specs.Queues.{queue_of}
use Rattle.hg_machine.specs.SoundPolicy.{IsSoundPolicy}
use Rattle.hg_machine.specs.State.{places_in}
use Rattle.hg_machine.specs.Room.{is_open_to}
use Rattle.hg_machine.specs.Lists.{list_at, Kept as KeptCore}
use Rattle.hg_heap.specs.Held.{Held, segment_in, lists_by, is_some_place, all_pages}
use Rattle.hg_heap.specs.Choice.{next_index, front_page, blank_page, blank_of, blank_by, blank_on}
use Rattle.hg_heap.specs.Choice.{chosen_place as chosen_in}
use Rattle.hg_heap.proofs.ViewRoom.{open_by, found_one}
use Rattle.hg_heap.proofs.Chosen.{IsOpenOn, IsFront, opened_on, front_there, blank_there}
use Rattle.hg_heap.proofs.Chosen.{chosen_front, chosen_blank, chosen_none}
use Rattle.hg_heap.proofs.Blanks.{blank_vacant, vacant_some}
use Rattle.hg_agreement.specs.Parts.{kept_of, places_from}
use Rattle.hg_parts.specs.Tidy.{IsTidy}
use Rattle.hg_choice.specs.PageLists.{lists_on}
use Rattle.hg_choice.specs.Choice.{chosen_by, chosen_place, front_page as front_of}
use Rattle.hg_events.specs.Core.{Core, parts_of, heap_of}
use Rattle.hg_chosen.specs.Choice.{IsHeapSettled, ChoiceIsTold}
use Rattle.hg_chosen.proofs.Searches.{IsFirst, find_first, find_none, find_nothing, find_is}
use Rattle.hg_chosen.proofs.Searches.{find_filter}
use Rattle.hg_chosen.proofs.HeapTold.{queues_told, places_told, open_told, within, told}

-- the next index of a page, of places by their numbers
abbrev numbered : ℕ → PageLists → PageLists
numbered first l =
    record {
      free = places_from first l.free;
      local_free = places_from first l.local_free;
      used = [];
    }

next_by : (first : ℕ) (free others : List ℕ) (used : List Bool) (index : ℕ)
    → next_index (record { free = free; local_free = others; used = used }) ≡ Some index
    → next_index (numbered first (record { free = free; local_free = others; used = used }))
    ≡ Some (first + index)
next_by first [] [] used index e = absurd (cc)
next_by first [] (y ∷ ys) used index e =
    let same : y ≡ index = cc in ap (λ n. Some (first + n)) same
next_by first (x ∷ xs) others used index e =
    let same : x ≡ index = cc in ap (λ n. Some (first + n)) same

next_told : (first : ℕ) (l : PageLists) (index : ℕ) → next_index l ≡ Some index
    → next_index (numbered first l) ≡ Some (first + index)
next_told first l index e = next_by first l.free l.local_free l.used index e

same_next : (one other : List ℕ) (third fourth : List ℕ) (used : List Bool) → one ≡ other
    → third ≡ fourth
    → next_index (record { free = one; local_free = third; used = used })
    ≡ next_index (record { free = other; local_free = fourth; used = used })
same_next one other third fourth used e f =
    ap (λ xs. next_index (record { free = xs; local_free = third; used = used })) e
    ∙ ap (λ xs. next_index (record { free = other; local_free = xs; used = used })) f

some_of : (xs : List ℕ) → is_some_place xs ≡ true → (x : ℕ) × (ys : List ℕ) × (xs ≡ x ∷ ys)
some_of [] e = absurd (true≢false (sym e))
some_of (x ∷ ys) e = (x, ys, refl)

all_first : (p : ℕ → Bool) (x : ℕ) → find p all_pages ≡ Some x → IsFirst p 0 1024 x
unfolding all_pages
all_first p x e = find_first p 0 1024 x e

all_nothing : (p : ℕ → Bool) → find p all_pages ≡ None → (q : ℕ) → q < 1024 → p q ≡ false
unfolding all_pages
all_nothing p e q below = find_nothing p 0 1024 e q (omega arith) below

module _ (core : Core) (worker arena size : ℕ) (policy : IsSoundPolicy core.policy)
    (t : IsTidy (parts_of core)) (below : worker < length core.heaps)
    (settled : IsHeapSettled (heap_of core worker)) (sized : Contains sizes size) where
  abbrev held : Held PlainWords
  held = heap_of core worker

  abbrev k : KeptCore
  k = kept_of (parts_of core)

  abbrev total : ℕ
  total = length core.policy.segments

  -- a place of a page that has no class yet
  abbrev Opens : ℕ → ℕ → Type 0
  Opens page index =
      IsOpenOn plain_number plain_records arena size None
      (segment_in plain_number held.segments (segment_of_page page)) (page % 16) index

  abbrev is_open : ℕ → Bool
  is_open = is_open_to k.state worker arena size None

  abbrev blank : ℕ → Bool
  blank page = is_some_place (blank_on plain_number plain_records held.segments arena size page)

  opens_at : (p : ℕ) → is_open p ≡ true → Opens (page_of p) (index_of p)
  opens_at p e =
      let same : segment_of p ≡ segment_of_page (page_of p) = omega arith in
      subst (λ n. IsOpenOn plain_number plain_records arena size None
      (segment_in plain_number held.segments n) (page_of p % 16) (index_of p)) same
      (opened_on plain_number plain_records arena size None
      (segment_in plain_number held.segments (segment_of p)) (page_of p % 16) (index_of p)
      (sym (open_told core worker policy t below arena size None p) ∙ e))

  open_at : (page index : ℕ) → index < 512 → Opens page index → is_open (page * 512 + index) ≡ true
  open_at page index low on =
      let p = page * 512 + index in
      let s : segment_of p ≡ segment_of_page page = omega (arith, low) in
      let n : page_of p % 16 ≡ page % 16 = omega (arith, low) in
      let i : index_of p ≡ index = omega (arith, low) in
      open_told core worker policy t below arena size None p
      ∙ ap (λ m. open_by plain_number plain_records arena size None
      (segment_in plain_number held.segments m) (page_of p % 16) (index_of p)) s
      ∙ ap (λ m. open_by plain_number plain_records arena size None
      (segment_in plain_number held.segments (segment_of_page page)) m (index_of p)) n
      ∙ ap (λ m. open_by plain_number plain_records arena size None
      (segment_in plain_number held.segments (segment_of_page page)) (page % 16) m) i
      ∙ ap (λ o. open_by plain_number plain_records arena size None o (page % 16) index) on.is
      ∙ and_from _ _ (ap (λ m. m == arena) on.arena_is ∙ eq-eqb arena arena refl)
      (and_from _ _ on.class
      (and_from _ _ (lt-ltb index (places_of size) on.below) on.vacant))

  -- it lies in a page that is blank, of a segment of the policy
  opens_blank : (page index : ℕ) → Opens page index → blank page ≡ true
  opens_blank page index on =
      blank_vacant plain_number plain_records held.segments arena size page on.k on.is on.arena_is
      on.class
      ∙ vacant_some plain_number plain_records on.k (page % 16) size index on.below on.vacant

  page_low : (page index : ℕ) → Opens page index → page < total * 16
  page_low page index on =
      let f =
      found_one plain_number plain_records held.segments (segment_of_page page) on.k on.is in
      let a = within core worker policy t below on.k f.0 in
      let b = f.1 in
      omega (arith, a, b)

  few : total * 16 ≤ 1024
  few = let a = policy.few_segments in omega (arith, a)

  index_low : (page index : ℕ) → Opens page index → index < 512
  index_low page index on = let a = on.below in let b = places_small size in omega (arith, a, b)

  -- the places of a blank page
  blanks_are : (page index : ℕ) → (on : Opens page index)
      → blank_on plain_number plain_records held.segments arena size page
      ≡ vacant_in on.k.greatest (plain_records on.k.slots) (page % 16) (places_of size)
  blanks_are page index on =
      ap (λ o. blank_by plain_number plain_records arena size o (page % 16)) on.is
      ∙ ap (blank_of plain_number plain_records arena size (page % 16) on.k) on.class
      ∙ ap (λ b. cond b (vacant_in on.k.greatest (plain_records on.k.slots) (page % 16)
      (places_of size)) []) (ap (λ n. n == arena) on.arena_is ∙ eq-eqb arena arena refl)

  -- before the first place of a blank page none of it is open
  none_before : (page x : ℕ) (xs : List ℕ) (on : Opens page x)
      → blank_on plain_number plain_records held.segments arena size page ≡ x ∷ xs
      → (index : ℕ) → index < x → Opens page index → ⊥
  none_before page x xs on first index less other =
      let p : ℕ → Bool =
      λ i. is_vacant on.k.greatest (standing_at (plain_records on.k.slots) (slot (page % 16) i)) in
      let found : find p (range_with_len 0 (places_of size)) ≡ Some x =
      find_filter p (range_with_len 0 (places_of size))
      ∙ ap (λ ys. slice_get ys 0) (sym (blanks_are page x on) ∙ first)
      in
      let same : other.k ≡ on.k = let e : Some other.k ≡ Some on.k = sym other.is ∙ on.is in cc in
      let vacant : p index ≡ true =
      sym (ap (λ one. is_vacant one.greatest (standing_at (plain_records one.slots)
      (slot (page % 16) index))) same) ∙ other.vacant in
      let least = (find_first p 0 (places_of size) x found).least index (omega arith) less in
      true≢false (sym vacant ∙ least)

  -- without a blank page no place is open
  none_open : blank_page plain_number plain_records held arena size ≡ None
      → find is_open (places_in k.state) ≡ None
  none_open none =
      ap (find is_open) (places_told core worker policy t below)
      ∙ find_none is_open 0 (total * 8192) (λ q a b. false_from_ne_true (is_open q) (λ e.
      let on = opens_at q e in
      let low = page_low (page_of q) (index_of q) on in
      let small = few in
      true≢false (sym (opens_blank (page_of q) (index_of q) on)
      ∙ all_nothing blank none (page_of q) (omega (arith, low, small)))))

  -- else the first of the first blank page is
  first_open : (page x : ℕ) (xs : List ℕ)
      → blank_page plain_number plain_records held arena size ≡ Some page
      → blank_on plain_number plain_records held.segments arena size page ≡ x ∷ xs → Opens page x
      → find is_open (places_in k.state) ≡ Some (page * 512 + x)
  first_open page x xs some first on =
      let n = page * 512 + x in
      let low = index_low page x on in
      let inside = page_low page x on in
      ap (find is_open) (places_told core worker policy t below)
      ∙ find_is is_open 0 (total * 8192) n (record {
        from = omega arith;
        below = omega (arith, low, inside);
        passes = open_at page x low on;
        least = λ q a b. false_from_ne_true (is_open q) (λ e.
            let here = opens_at q e in
            elim (cases_eq (page_of q) page) [
              | inl same ↦
                  none_before page x xs on first (index_of q) (omega (arith, b, same))
                  (subst (λ m. Opens m (index_of q)) same here)
              | inr ne ↦ true≢false (sym (opens_blank (page_of q) (index_of q) here)
                  ∙ (all_first blank page some).least (page_of q) (omega arith)
                  (omega (arith, b, low, ne)))
            ]);
      })

  -- with an empty queue
  blank_told : (b : Option ℕ) → blank_page plain_number plain_records held arena size ≡ b
      → front_page plain_number plain_records held arena size ≡ None
      → find is_open (places_in k.state) ≡ chosen_in plain_number plain_records held arena size
  blank_told None e empty =
      none_open e ∙ sym (chosen_none plain_number plain_records held settled.queued settled.each
      arena size empty e)
  blank_told (Some page) e empty =
      let x = some_of (blank_on plain_number plain_records held.segments arena size page)
      (all_first blank page e).passes in
      let on = blank_there plain_number plain_records held settled.queued settled.each arena size
      (page % 16) x.0
      (segment_in plain_number held.segments (segment_of_page page))
      (subst (λ (xs : List ℕ). Contains xs x.0) (sym x.2) (0, omega arith, refl))
      in
      first_open page x.0 x.1 e x.2 on
      ∙ sym (chosen_blank plain_number plain_records held settled.queued settled.each arena size
      page x.0 x.1 empty e x.2)

  -- with a page at the front
  front_told : (page : ℕ) → (f : IsFront plain_number plain_records held settled.queued settled.each
      arena size page)
      → next_index (lists_on k.lists page) ≡ Some (page * 512 + f.index)
  front_told page f =
      let on = f.class_there in
      let found =
      found_one plain_number plain_records held.segments (segment_of_page page) on.k on.is in
      let there = told core worker policy t below on.k found.0 in
      let number = found.1 in
      let at : plain_number on.k.slots * 16 + page % 16 ≡ page = omega (arith, number) in
      let l = lists_at on.k.lists (page % 16) in
      let free : list_at k.lists.free page ≡ places_from (page * 512) l.free =
      ap (list_at k.lists.free) (sym at) ∙ there.free (page % 16) (omega arith)
      ∙ ap (λ n. places_from (n * 512) l.free) at
      in
      let others : list_at k.lists.local_free page ≡ places_from (page * 512) l.local_free =
      ap (list_at k.lists.local_free) (sym at) ∙ there.local_free (page % 16) (omega arith)
      ∙ ap (λ n. places_from (n * 512) l.local_free) at
      in
      same_next _ _ _ _ [] free others
      ∙ next_told (page * 512) l f.index (sym (ap
      (λ o. next_index (lists_by plain_number o (page % 16))) on.is) ∙ f.next)

  chosen_told : (front : Option ℕ) → front_page plain_number plain_records held arena size ≡ front
      → chosen_by k worker arena size front ≡ chosen_in plain_number plain_records held arena size
  chosen_told None e = blank_told (blank_page plain_number plain_records held arena size) refl e
  chosen_told (Some page) e =
      let f = front_there plain_number plain_records held settled.queued settled.each arena size
      page sized e in
      front_told page f ∙ sym (chosen_front plain_number plain_records held settled.queued
      settled.each arena size page e f)

  front_same : front_of k worker arena size ≡ front_page plain_number plain_records held arena size
  front_same =
      ap (λ qs. slice_get (queue_of qs (key_of arena (number_of_size size))) 0)
      (queues_told core worker)

  chosen_same : chosen_place k worker arena size
      ≡ chosen_in plain_number plain_records held arena size
  chosen_same = ap (chosen_by k worker arena size) front_same
      ∙ chosen_told (front_page plain_number plain_records held arena size) refl

pub choice_is_told : ChoiceIsTold
choice_is_told core worker arena size policy t below settled sized =
    chosen_same core worker arena size policy t below settled sized

-- A Collect empties the lists of the worker's idle pages, and takes them out of its queues.
use Rattle.std.proofs.Common.{◌≡◌, ℕ, ◌+◌, ◌*◌, ◌%◌, ◌<◌, ◌&&◌, Bool, true, false, not, cond, []}
use Rattle.std.proofs.Common.{List, length, map, filter, is_some, sym, refl, ap, ◌∙◌, arith}
use Rattle.std.proofs.Common.{slice_index_or, Option, Some, None}
use Rattle.std.specs.List.{range_with_len}
use Rattle.std.proofs.lemmas.List.FromFn.{length-map-range_with_len}
use Rattle.hg_place.specs.declared.plain.PlainWords.{PlainWords}
use Rattle.hg_place.specs.declared.standing.Standing.{Standing}
use Rattle.hg_place.specs.Places.{segment_of_page}
use Rattle.hg_place.specs.Plain.{plain_records}
use Rattle.hg_place.specs.Slots.{slot_in}
use Rattle.hg_place.specs.Standings.{standing_at, is_home as at_home}
use Rattle.hg_page.specs.PageLists.{PageLists, freed}
use Rattle.hg_segment.specs.Kept.{Kept, slot, class_at as class_in}
use Rattle.hg_segment.specs.Parted.{plain_number}
use Rattle.hg_heap.specs.Held.{Held, segment_in, is_held}
use Rattle.hg_heap.specs.Idle.{bare, is_idle_by, IdleAreOut, is_idle as is_idle_in}
use Rattle.hg_heap.proofs.Filtered.{filters_same}
use Rattle.hg_heap.proofs.Idles.{all_shift, home_on, rest_in}
use Rattle.hg_heap.proofs.Options.{is_some_map}
use Rattle.hg_machine.specs.Life.{is_home}
use Rattle.hg_machine.specs.State.{State, record_at, class_at, pages_in}
use Rattle.hg_machine.specs.SoundPolicy.{IsSoundPolicy}
use Rattle.hg_machine.specs.Sweeps.{is_idle}
use Rattle.hg_machine.specs.Lists.{Lists, list_at}
use Rattle.hg_agreement.specs.Holdings.{block_of}
use Rattle.hg_agreement.specs.Parts.{Parts, plain_from, plain_of, state_of, lists_of, lists_on}
use Rattle.hg_agreement.specs.Parts.{free_of, local_of, places_from, page_class}
use Rattle.hg_agreement.specs.PartsLaws.{AreTold}
use Rattle.hg_agreement.proofs.HeldLives.{held_home}
use Rattle.hg_agreement.proofs.Lookups.{maps_below}
use Rattle.hg_agreement.proofs.Told.{segments_are_told}
use Rattle.hg_parts.specs.Tidy.{IsTidy}
use Rattle.hg_choice.specs.ListsAfter.{is_collected, collected}
use Rattle.hg_events.specs.Core.{Core, parts_of, heap_of}
use Rattle.hg_events.specs.Collects.{with_collected, IsCollected}
use Rattle.hg_events.proofs.Collects.{collect_is_step}
use Rattle.hg_events.proofs.Elsewhere.{holds_is_held}
use Rattle.hg_events.proofs.WordAt.{one_inside, heap_segment}
use Rattle.hg_chosen.specs.Collected.{CollectIsChosen}
use Rattle.hg_chosen.proofs.HeapLists.{lists_held, lists_here, lists_away}
use Rattle.hg_chosen.proofs.MovedLists.{free_at, local_at, queues_with}

swapped : (b c : Bool) → (b && c) ≡ (c && b)
swapped true true = refl
swapped true false = refl
swapped false true = refl
swapped false false = refl

-- places of emptied lists
emptied_free : (i : Bool) (first : ℕ) (lists : PageLists)
    → places_from first (cond i (freed lists []) lists).free
    ≡ cond i [] (places_from first lists.free)
emptied_free true first lists = refl
emptied_free false first lists = refl

emptied_local : (i : Bool) (first : ℕ) (lists : PageLists)
    → places_from first (cond i (freed lists []) lists).local_free
    ≡ cond i [] (places_from first lists.local_free)
emptied_local true first lists = refl
emptied_local false first lists = refl

none_held : (o : Option (Kept PlainWords)) (page : ℕ) → is_some o ≡ false
    → is_idle_by plain_number plain_records o page ≡ false
none_held None page e = refl
none_held (Some k) page e = absurd (cc)

module _ (core : Core) (worker : ℕ) (t : IsTidy (parts_of core))
    (below : worker < length core.heaps) where
  abbrev parts : Parts
  parts = parts_of core

  abbrev s : State
  s = state_of parts

  abbrev l : Lists
  l = lists_of parts

  abbrev old : Held PlainWords
  old = heap_of core worker

  abbrev standings : Kept PlainWords → List Standing
  standings x = plain_records x.slots

  module _ (n : ℕ) (x : Kept PlainWords)
      (here : segment_in plain_number old.segments n ≡ Some x) where
    there : plain_of parts n ≡ Some (plain_from x)
    there = heap_segment core worker n x t here

    told : AreTold parts n (plain_from x)
    told =
        segments_are_told parts n (plain_from x) (one_inside parts n (plain_from x) t there) there

    -- each place of a page of it is home in the state where it is in the heap
    idle_told : (page within : ℕ) → page ≡ n * 16 + within → within < 16
        → is_idle s page ≡ home_on (standings x) within
    idle_told page within page_is low =
        all_shift (λ place. is_home (record_at s place).life)
        (λ index. at_home (standing_at (standings x) (slot within index)))
        (page * 512) 0 512 (λ k lt.
        let at : ℕ = within * 512 + k in
        let e : page * 512 + k ≡ n * 8192 + at = omega (arith, page_is) in
        let small : at < 8192 = omega (arith, low, lt) in
        let z : at ≡ slot within (0 + k) = omega arith in
        ap (λ (q : ℕ). is_home (record_at s q).life) e
        ∙ ap (λ r. is_home r.life) (told.records at small)
        ∙ held_home (not (slot_in (slice_index_or (plain_from x).slots at 0)).live)
        (standing_at (standings x) at) (block_of (plain_from x).holding at)
        ∙ ap (λ (m : ℕ). at_home (standing_at (standings x) m)) z)

    class_told : (page within : ℕ) → page ≡ n * 16 + within → within < 16
        → class_at s page ≡ class_in x.classes within
    class_told page within page_is low = ap (class_at s) page_is ∙ told.classes within low

  -- the pages that are collected are the idle ones of the heap
  module _ (page : ℕ) where
    abbrev n : ℕ
    n = segment_of_page page

    abbrev within : ℕ
    within = page % 16

    abbrev rest : Bool
    rest = is_idle s page && is_some (class_at s page)

    collected_by : (o : Option (Kept PlainWords)) → segment_in plain_number old.segments n ≡ o
        → is_collected s worker page ≡ is_idle_in plain_number plain_records old.segments page
    collected_by None e =
        ap (λ b. b && rest) (holds_is_held core worker n t below ∙ ap is_some e)
        ∙ sym (ap (λ o. is_idle_by plain_number plain_records o within) e)
    collected_by (Some x) e =
        let page_is : page ≡ n * 16 + within = omega arith in
        let low : within < 16 = omega arith in
        ap (λ b. b && rest) (holds_is_held core worker n t below ∙ ap is_some e)
        ∙ ap (λ b. b && is_some (class_at s page)) (idle_told n x e page within page_is low)
        ∙ ap (λ c. home_on (standings x) within && is_some c)
        (class_told n x e page within page_is low)
        ∙ swapped (home_on (standings x) within) (is_some (class_in x.classes within))
        ∙ sym (ap (λ o. is_idle_by plain_number plain_records o within) e)

    pub collected_is : is_collected s worker page
        ≡ is_idle_in plain_number plain_records old.segments page
    collected_is = collected_by (segment_in plain_number old.segments n) refl

  module _ (heap : Held PlainWords) (count : ℕ) (policy : IsSoundPolicy core.policy)
      (done : IsCollected old heap count)
      (out : IdleAreOut plain_number plain_records old heap) where
    abbrev now : Parts
    now = parts_of (with_collected core worker heap)

    abbrev idle : ℕ → Bool
    idle page = is_idle_in plain_number plain_records old.segments page

    after : IsTidy now
    after = (collect_is_step core worker heap count policy t below done).1

    held_same : (n : ℕ)
        → is_held plain_number heap.segments n ≡ is_held plain_number old.segments n
    held_same n =
        sym (is_some_map bare (segment_in plain_number heap.segments n))
        ∙ ap is_some
        (rest_in plain_number plain_records heap.segments old.segments n done.collected.rest)
        ∙ is_some_map bare (segment_in plain_number old.segments n)

    -- the lists of a page afterwards, by those before
    abbrev lists_then : ℕ → PageLists → PageLists
    lists_then page lists = cond (idle page) (freed lists []) lists

    page_now : (page : ℕ) → lists_on now page ≡ lists_then page (lists_on parts page)
    page_now page = by (is_held plain_number old.segments (segment_of_page page)) refl
      where
        by : (b : Bool) → is_held plain_number old.segments (segment_of_page page) ≡ b
            → lists_on now page ≡ lists_then page (lists_on parts page)
        by true here =
            lists_here core worker heap t below after held_same page here
            ∙ out.lists page
            ∙ ap (lists_then page) (sym (lists_held core worker page t here))
        by false away =
            lists_away core worker heap t below after held_same page away
            ∙ sym (ap (λ b. cond b (freed (lists_on parts page) []) (lists_on parts page))
            (none_held (segment_in plain_number old.segments (segment_of_page page)) (page % 16)
            away))

    abbrev count_pages : ℕ
    count_pages = length core.policy.segments * 16

    abbrev free_then : ℕ → List ℕ
    free_then page = cond (is_collected s worker page) [] (list_at l.free page)

    abbrev local_then : ℕ → List ℕ
    local_then page = cond (is_collected s worker page) [] (list_at l.local_free page)

    free_now : (page : ℕ) → page < count_pages → free_of now page ≡ free_then page
    free_now page inside =
        ap (λ lists. places_from (page * 512) lists.free) (page_now page)
        ∙ emptied_free (idle page) (page * 512) (lists_on parts page)
        ∙ ap (λ xs. cond (idle page) [] xs) (sym (free_at parts page inside))
        ∙ ap (λ b. cond b [] (list_at l.free page)) (sym (collected_is page))

    local_now : (page : ℕ) → page < count_pages → local_of now page ≡ local_then page
    local_now page inside =
        ap (λ lists. places_from (page * 512) lists.local_free) (page_now page)
        ∙ emptied_local (idle page) (page * 512) (lists_on parts page)
        ∙ ap (λ xs. cond (idle page) [] xs) (sym (local_at parts page inside))
        ∙ ap (λ b. cond b [] (list_at l.local_free page)) (sym (collected_is page))

    all_now : (f g : ℕ → List ℕ) → ((page : ℕ) → page < count_pages → f page ≡ g page)
        → map f (range_with_len 0 count_pages) ≡ map g (pages_in s)
    all_now f g each =
        maps_below f g 0 count_pages (λ page low high. each page (omega (arith, high)))
        ∙ ap (λ m. map g (range_with_len 0 m))
        (sym (length-map-range_with_len (page_class parts) 0 count_pages))

    pub lists_are : lists_of now ≡ collected s l worker
    lists_are =
        ap (λ fs. record l {
          free = fs;
          local_free = map (local_of now) (range_with_len 0 count_pages);
        }) (all_now (free_of now) free_then free_now)
        ∙ ap (λ ls. record l { free = map free_then (pages_in s); local_free = ls })
        (all_now (local_of now) local_then local_now)

    pub queues_are : heap.queues
        ≡ map (filter (λ page. not (is_collected s worker page))) old.queues
    queues_are =
        out.queues
        ∙ filters_same (λ page. not (idle page)) (λ page. not (is_collected s worker page))
        (λ page. ap not (sym (collected_is page))) old.queues

pub collect_is_chosen : CollectIsChosen
collect_is_chosen core worker heap count policy t below done out = record {
  step = (collect_is_step core worker heap count policy t below done).0;
  chosen = tt;
  lists = lists_are core worker t below heap count policy done out;
  queues =
      queues_with core worker heap
      (map (filter (λ page. not (is_collected (state_of (parts_of core)) worker page))))
      (queues_are core worker t below heap count policy done out);
}

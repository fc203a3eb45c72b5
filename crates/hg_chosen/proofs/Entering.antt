-- A Refill leaves the lists, and puts the segment's pages in front of the worker's queues.
use Rattle.std.proofs.Common.{◌≡◌, ℕ, zero, suc, ◌+◌, ◌*◌, ◌%◌, ◌<◌, ◌≤◌, ◌&&◌, Bool, true, cond}
use Rattle.std.proofs.Common.{◌∷◌, [], ◌++◌, List, length, map, filter, find, reverse, inl, inr}
use Rattle.std.proofs.Common.{sym, refl, ap, ◌∙◌, arith, slice_set, Some}
use Rattle.std.specs.List.{range_with_len}
use Rattle.std.proofs.lemmas.Bool.{cases_Bool, eqb-true}
use Rattle.std.proofs.lemmas.Grind.{get_or-set_at}
use Rattle.std.proofs.lemmas.List.{ext_get_or}
use Rattle.std.proofs.lemmas.List.Folds.{find-append}
use Rattle.std.proofs.lemmas.List.FromFn.{length-map-range_with_len, get_or-map-range_with_len}
use Rattle.std.proofs.lemmas.Option.{same_Some, none-some}
use Rattle.hg_place.specs.declared.plain.PlainWords.{PlainWords}
use Rattle.hg_segment.specs.Kept.{Kept, lists_at, class_at as class_in}
use Rattle.hg_segment.specs.Parted.{plain_number}
use Rattle.hg_queue.specs.Queues.{queue_of}
use Rattle.hg_pool.specs.Pooled.{Pooled, is_of_arena}
use Rattle.hg_heap.specs.Held.{Held, has_place, is_some_place}
use Rattle.hg_heap.specs.Entering.{is_key_of, pages_of_key as pages_in}
use Rattle.hg_machine.specs.State.{State, class_at}
use Rattle.hg_machine.specs.Lists.{Lists, list_at}
use Rattle.hg_agreement.specs.Parts.{Plain, Parts, plain_from, plain_of, plain_by, is_of, state_of}
use Rattle.hg_agreement.specs.Parts.{lists_of, places_from}
use Rattle.hg_agreement.specs.PartsLaws.{AreTold}
use Rattle.hg_agreement.specs.Pool.{without, with_adopted, IsTakenUp}
use Rattle.hg_agreement.proofs.Adopts.{up_plain, up_now}
use Rattle.hg_agreement.proofs.CoreSteps.{refilled_is_taken_up}
use Rattle.hg_agreement.proofs.Told.{segments_are_told}
use Rattle.hg_parts.specs.Tidy.{IsTidy}
use Rattle.hg_parts.proofs.Sorted.{tidy_pooled}
use Rattle.hg_choice.specs.PageLists.{lists_on}
use Rattle.hg_choice.specs.QueuesAfter.{pages_of_key, with_pages}
use Rattle.hg_events.specs.Core.{Core, parts_of, heap_of}
use Rattle.hg_events.specs.Refill.{with_refill, IsRefill}
use Rattle.hg_events.proofs.Refilled.{refill_is_served, refilled, after_is}
use Rattle.hg_events.proofs.WordAt.{one_inside}
use Rattle.hg_chosen.specs.Refilled.{RefillIsChosen, AreEntered}
use Rattle.hg_chosen.proofs.MovedLists.{moved_lists, queues_with}

-- what is found passes
found_passes : (p : Kept PlainWords → Bool) (xs : List (Kept PlainWords)) (y : Kept PlainWords)
    → find p xs ≡ Some y → p y ≡ true
found_passes p [] y e = absurd (none-some y e)
found_passes p (x ∷ xs) y e = elim (cases_Bool (p x)) [
  | inl t ↦
      let same : x ≡ y = same_Some x y (sym (ap (λ b. cond b (Some x) (find p xs)) t) ∙ e) in
      sym (ap p same) ∙ t
  | inr f ↦ found_passes p xs y (sym (ap (λ b. cond b (Some x) (find p xs)) f) ∙ e)
]

-- two tests that say the same of a range
filter_range : (p q : ℕ → Bool) (a n : ℕ) → ((k : ℕ) → a ≤ k → k < a + n → p k ≡ q k)
    → filter p (range_with_len a n) ≡ filter q (range_with_len a n)
filter_range p q a zero e = refl
filter_range p q a (suc n) e =
    let rest = filter p (range_with_len (a + 1) n) in
    ap (λ b. cond b (a ∷ rest) rest) (e a (omega arith) (omega arith))
    ∙ ap (λ xs. cond (q a) (a ∷ xs) xs)
    (filter_range p q (a + 1) n (λ k low high. e k (omega (arith, low)) (omega (arith, high))))

-- there is a place where there is an index
some_moved : (f : ℕ → ℕ) (xs ys : List ℕ)
    → is_some_place (map f xs ++ map f ys) ≡ is_some_place (xs ++ ys)
some_moved f [] [] = refl
some_moved f [] (y ∷ ys) = refl
some_moved f (x ∷ xs) ys = refl

module _ (core : Core) (worker arena : ℕ) (one : Kept PlainWords) (held : Held PlainWords)
    (pool : Pooled PlainWords) (t : IsTidy (parts_of core)) (below : worker < length core.heaps)
    (is : IsRefill core worker arena one held pool) where
  abbrev parts : Parts
  parts = parts_of core

  abbrev s : State
  s = state_of parts

  abbrev l : Lists
  l = lists_of parts

  abbrev n : ℕ
  n = one.slots.segment

  abbrev heap : List Plain
  heap = map plain_from held.segments

  abbrev new : Parts
  new = parts_of (with_refill core worker held pool)

  up : IsTakenUp parts worker heap (plain_from one)
  up =
      refilled_is_taken_up parts worker arena heap (plain_from one)
      (refilled core worker arena one held pool t below is)

  -- each segment is what it was
  same : (k : ℕ) → plain_of (with_adopted parts worker heap n) k ≡ plain_of parts k
  same = up_plain parts worker heap (plain_from one) (tidy_pooled parts t) up

  there : plain_of parts n ≡ Some (plain_from one)
  there =
      sym (same n)
      ∙ ap (plain_by (with_adopted parts worker heap n) n)
      (up_now parts worker heap (plain_from one) (tidy_pooled parts t) up)
      ∙ ap (find (is_of n)) (get_or-set_at parts.heaps worker worker heap [] refl up.worker_below)
      ∙ up.came

  same_lists : lists_of new ≡ l
  same_lists =
      ap lists_of (after_is core worker arena one held pool t below is)
      ∙ moved_lists parts (slice_set parts.heaps worker heap) (without n parts.orphans)
      (without n parts.fresh) (map (λ h. h.queues) (slice_set core.heaps worker held)) same

  told : AreTold parts n (plain_from one)
  told =
      segments_are_told parts n (plain_from one) (one_inside parts n (plain_from one) t there)
      there

  arena_is : one.arena ≡ arena
  arena_is =
      eqb-true one.arena arena
      (found_passes (is_of_arena arena) (core.pool.orphans ++ core.pool.fresh) one
      (find-append (is_of_arena arena) core.pool.orphans core.pool.fresh ∙ is.next))

  -- what is told of a page of the segment
  module _ (page : ℕ) (low : n * 16 ≤ page) (high : page < n * 16 + 16) where
    abbrev within : ℕ
    within = page % 16

    small : within < 16
    small = omega arith

    page_is : page ≡ n * 16 + within
    page_is = omega (arith, low, high)

    class_is : class_at s page ≡ class_in one.classes within
    class_is = ap (class_at s) page_is ∙ told.classes within small

    place_is : has_place (lists_on l page) ≡ has_place (lists_at one.lists within)
    place_is =
        let p = n * 16 + within in
        let lists = lists_at one.lists within in
        ap (λ (m : ℕ). has_place (lists_on l m)) page_is
        ∙ ap (λ xs. is_some_place (xs ++ list_at l.local_free p)) (told.free within small)
        ∙ ap (λ xs. is_some_place (places_from (p * 512) lists.free ++ xs))
        (told.local_free within small)
        ∙ some_moved (λ k. p * 512 + k) lists.free lists.local_free

  pages_same : (key : ℕ) → pages_of_key s l arena n key ≡ pages_in plain_number one key
  unfolding pages_in
  pages_same key =
      filter_range (λ page. is_key_of arena (class_at s page) key && has_place (lists_on l page))
      (λ page. is_key_of one.arena (class_in one.classes (page % 16)) key
      && has_place (lists_at one.lists (page % 16)))
      (n * 16) 16 (λ page low high.
      ap (λ a. is_key_of a (class_at s page) key && has_place (lists_on l page)) (sym arena_is)
      ∙ ap (λ c. is_key_of one.arena c key && has_place (lists_on l page))
      (class_is page low high)
      ∙ ap (λ b. is_key_of one.arena (class_in one.classes (page % 16)) key && b)
      (place_is page low high))

  module _ (entered : AreEntered one (heap_of core worker) held) where
    abbrev queues : List (List ℕ)
    queues = (heap_of core worker).queues

    abbrev now_at : ℕ → List ℕ
    now_at key = reverse (pages_of_key s l arena n key) ++ queue_of queues key

    queues_are : held.queues ≡ with_pages s l arena n queues
    queues_are =
        let long = length-map-range_with_len now_at 0 (length queues) in
        let as_many : length held.queues ≡ length queues =
        entered.after.all ∙ sym entered.before.all in
        ext_get_or [] held.queues (with_pages s l arena n queues) (as_many ∙ sym long)
        (λ key inside.
        entered.queues key
        ∙ ap (λ ps. reverse ps ++ queue_of queues key) (sym (pages_same key))
        ∙ sym (get_or-map-range_with_len now_at 0 (length queues) key key []
        (omega (arith, inside, as_many)) (omega arith)))

pub refill_is_chosen : RefillIsChosen
refill_is_chosen core worker arena one held pool t below is entered = record {
  step = (refill_is_served core worker arena one held pool t below is).0;
  chosen = tt;
  lists = same_lists core worker arena one held pool t below is;
  queues =
      queues_with core worker held
      (with_pages (state_of (parts_of core)) (lists_of (parts_of core)) arena one.slots.segment)
      (queues_are core worker arena one held pool t below is entered);
}

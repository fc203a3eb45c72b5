-- What an event of the side leaves of lists and queues, in two keeps that agree on it.
use Rattle.std.proofs.Common.{◌≡◌, ℕ, ◌*◌, ◌==◌, ◌&&◌, Bool, true, false, List, []}
use Rattle.std.proofs.Common.{◌∷◌, ◌++◌, if◌then◌else◌, length, map, reverse}
use Rattle.std.proofs.Common.{Option, Some, None, refl, sym, ap, subst, ◌∙◌, arith}
use Rattle.std.proofs.Math.Path.{fun_ext}
use Rattle.std.specs.Option.{option_map, option_and_then}
use Rattle.std.specs.List.{AllByRecursion, concat, list_any, range_with_len}
use Rattle.hg_place.specs.Places.{page_of, index_of, segment_of, segment_of_page}
use Rattle.hg_size.specs.Sizes.{number_of_size}
use Rattle.hg_size.specs.SizeLaws.{key_of}
use Rattle.hg_page.specs.PageLists.{PageLists, fresh}
use Rattle.hg_segment.specs.Kept.{refilled, returned}
use Rattle.hg_queue.specs.Queues.{queue_of}
use Rattle.hg_remote.specs.Remote.{slot, is_delayed}
use Rattle.hg_remote.specs.Order.{drained, with_those_before}
use Rattle.hg_heap.specs.Held.{has_place}
use Rattle.hg_heap.specs.Requeued.{requeued}
use Rattle.hg_heap.specs.Entering.{is_key_of}
use Rattle.hg_machine.specs.Policy.{arena_of}
use Rattle.hg_machine.specs.State.{State, record_at, class_at, pages_in}
use Rattle.hg_machine.specs.Room.{is_usable}
use Rattle.hg_machine.specs.Lists.{Lists, list_at}
use Rattle.hg_choice.specs.PageLists.{lists_on, with_page, popped}
use Rattle.hg_choice.specs.ListsAfter.{lists_for, given_from, came_home, all_home, remote_of}
use Rattle.hg_choice.specs.ListsAfter.{delivered, nothing_sent_to, is_collected, collected}
use Rattle.hg_choice.specs.QueuesAfter.{key_on, placed, all_placed, pages_of_key, with_pages}
use Rattle.hg_purge.proofs.SameAt.{SameAt, set_both, maps_both}
use Rattle.hg_purge.proofs.Agreeing.{StateOn, ListsOn, IsFiled, sent_by}
use Rattle.hg_purge.proofs.Following.{usable_same}
use Rattle.hg_purge.proofs.Facts.{filter_in_range, segment_of_paged}

module _ {on own : ℕ → Bool} where
  -- the lists of a page of the side
  pub page_same : {l m : Lists} (page : ℕ) → ListsOn on own l m → on (segment_of_page page) ≡ true
      → lists_on m page ≡ lists_on l page
  page_same {l} {m} page same o =
      ap (λ xs. record { free = xs; local_free = list_at m.local_free page; used = [] })
      (same.free.at page o)
      ∙ ap (λ xs. record { free = list_at l.free page; local_free = xs; used = [] })
      (same.local_free.at page o)

  with_both : {l m : Lists} {lists others : PageLists} (page : ℕ) → ListsOn on own l m
      → others ≡ lists → ListsOn on own (with_page l page lists) (with_page m page others)
  with_both page same e = record {
    free = set_both page same.free (ap (λ x. x.free) e);
    local_free = set_both page same.local_free (ap (λ x. x.local_free) e);
    thread_free = same.thread_free;
    delayed = same.delayed;
  }

  module _ {s t : State} (agree : StateOn on own s t) where
    -- a page of the side, when a place of it is given out
    for_same : {l m : Lists} (size page : ℕ) (class : Option ℕ) → ListsOn on own l m
        → on (segment_of_page page) ≡ true
        → lists_for t m size page class ≡ lists_for s l size page class
    for_same size page (Some class) same o = page_same page same o
    for_same size page None same o =
        ap fresh
        (filter_in_range (is_usable s size) (is_usable t size) (page * 512) 512
        (λ p low high.
        let at : segment_of p ≡ segment_of_page page = omega arith in
        usable_same agree size p (ap on at ∙ o)))

    pub given_same : {l m : Lists} (size page : ℕ) → ListsOn on own l m
        → on (segment_of_page page) ≡ true
        → ListsOn on own (given_from s l size page) (given_from t m size page)
    given_same {l} {m} size page same o =
        with_both page same
        (ap popped (ap refilled
        (ap (lists_for t m size page) (agree.classes.at page o)
        ∙ for_same size page (class_at s page) same o)))

    pub came_same : {l m : Lists} (place : ℕ) → ListsOn on own l m → on (segment_of place) ≡ true
        → ListsOn on own (came_home s l place) (came_home t m place)
    came_same {l} {m} place same o =
        let page = page_of place in
        let generation = (record_at s place).generation in
        with_both page same
        (ap (λ r. returned (r.generation == t.policy.max_generation) (lists_on m page) place)
        (agree.records.at place o)
        ∙ ap (λ p. returned (generation == p.max_generation) (lists_on m page) place) agree.policy
        ∙ ap (λ x. returned (generation == s.policy.max_generation) x place)
        (page_same page same (ap on (segment_of_paged place) ∙ o)))

    pub homes_same : (places : List ℕ) {l m : Lists} → ListsOn on own l m
        → AllByRecursion (λ place. on (segment_of place) ≡ true) places
        → ListsOn on own (all_home s l places) (all_home t m places)
    homes_same [] same each = same
    homes_same (place ∷ places) same each =
        homes_same places (came_same place same each.0) each.1

    -- and the queues
    key_same : (page : ℕ) → on (segment_of_page page) ≡ true → key_on t page ≡ key_on s page
    key_same page o =
        let segment = segment_of_page page in
        let key : ℕ → ℕ → ℕ = λ arena size. key_of arena (number_of_size size) in
        ap (λ p. option_and_then (λ arena. option_map (key arena) (class_at t page))
        (arena_of p segment)) agree.policy
        ∙ ap (λ c. option_and_then (λ arena. option_map (key arena) c) (arena_of s.policy segment))
        (agree.classes.at page o)

    pub placed_same : {l m : Lists} (page : ℕ) (key : Option ℕ) (queues : List (List ℕ))
        → ListsOn on own l m → on (segment_of_page page) ≡ true
        → placed m page key queues ≡ placed l page key queues
    placed_same page None queues same o = refl
    placed_same page (Some key) queues same o =
        ap (λ x. requeued key page (has_place x) queues) (page_same page same o)

    pub all_placed_same : (places : List ℕ) {l m : Lists} (queues : List (List ℕ))
        → ListsOn on own l m → AllByRecursion (λ place. on (segment_of place) ≡ true) places
        → all_placed t m places queues ≡ all_placed s l places queues
    all_placed_same [] queues same each = refl
    all_placed_same (place ∷ places) {l} {m} queues same each =
        let page = page_of place in
        let o = ap on (segment_of_paged place) ∙ each.0 in
        let came = came_same place same each.0 in
        let now = came_home t m place in
        ap (λ key. all_placed t now places (placed now page key queues)) (key_same page o)
        ∙ ap (λ qs. all_placed t now places qs) (placed_same page (key_on s page) queues came o)
        ∙ all_placed_same places _ came each.1

    of_key_same : {l m : Lists} (arena segment key : ℕ) → ListsOn on own l m → on segment ≡ true
        → pages_of_key t m arena segment key ≡ pages_of_key s l arena segment key
    of_key_same {l} {m} arena segment key same o =
        filter_in_range _ _ (segment * 16) 16
        (λ page low high.
        let at : segment_of_page page ≡ segment = omega arith in
        let there = ap on at ∙ o in
        ap (λ c. is_key_of arena c key && has_place (lists_on m page)) (agree.classes.at page there)
        ∙ ap (λ x. is_key_of arena (class_at s page) key && has_place x)
        (page_same page same there))

    pub with_pages_same : {l m : Lists} (arena segment : ℕ) (queues : List (List ℕ))
        → ListsOn on own l m → on segment ≡ true
        → with_pages t m arena segment queues ≡ with_pages s l arena segment queues
    with_pages_same arena segment queues same o =
        ap (λ f. map (λ key. reverse (f key) ++ queue_of queues key)
        (range_with_len 0 (length queues)))
        (fun_ext λ key. of_key_same arena segment key same o)

    pub nothing_same : {l m : Lists} (segment : ℕ) → ListsOn on own l m
        → ListsOn on own (nothing_sent_to s l segment) (nothing_sent_to t m segment)
    nothing_same segment same = record {
      free = same.free;
      local_free = same.local_free;
      thread_free =
          maps_both _ _ (length s.classes) (length t.classes) agree.classes.long
          (λ page o. ap (λ xs. if segment_of_page page == segment then [] else xs)
          (same.thread_free.at page o));
      delayed = set_both segment same.delayed refl;
    }

    -- after a Collect that clears the same pages
    emptied_same : {xs ys : List (List ℕ)} (f g : ℕ → Bool) → g ≡ f
        → SameAt (λ page. on (segment_of_page page)) [] xs ys
        → SameAt (λ page. on (segment_of_page page)) []
        (map (λ page. if f page then [] else list_at xs page) (pages_in s))
        (map (λ page. if g page then [] else list_at ys page) (pages_in t))
    emptied_same {xs} {ys} f g e same =
        maps_both _ _ (length s.classes) (length t.classes) agree.classes.long
        (λ page o. ap (λ h. if h page then [] else list_at ys page) e
        ∙ ap (λ places. if f page then [] else places) (same.at page o))

    pub cleared_lists : {l m : Lists} (w : ℕ) → ListsOn on own l m
        → is_collected t w ≡ is_collected s w
        → ListsOn on own (collected s l w) (collected t m w)
    cleared_lists w same e = record {
      free = emptied_same (is_collected s w) (is_collected t w) e same.free;
      local_free = emptied_same (is_collected s w) (is_collected t w) e same.local_free;
      thread_free = same.thread_free;
      delayed = same.delayed;
    }

  -- what was sent to a segment of the side
  before_same : {l m : Lists} (segment : ℕ) (places : List ℕ) → ListsOn on own l m
      → on segment ≡ true → AllByRecursion (λ place. segment_of place ≡ segment) places
      → concat (map (with_those_before (remote_of m segment)) places)
      ≡ concat (map (with_those_before (remote_of l segment)) places)
  before_same segment [] same o each = refl
  before_same {l} {m} segment (place ∷ places) same o each =
      let later = concat (map (with_those_before (remote_of m segment)) places) in
      ap (λ xs. (xs ++ place ∷ []) ++ later)
      (same.thread_free.at (page_of place) (ap on (segment_of_paged place ∙ each.0) ∙ o))
      ∙ ap (λ ys. (list_at l.thread_free (page_of place) ++ place ∷ []) ++ ys)
      (before_same segment places same o each.1)

  pub drained_same : {l m : Lists} (segment : ℕ) → ListsOn on own l m → on segment ≡ true
      → IsFiled l → drained (remote_of m segment) ≡ drained (remote_of l segment)
  drained_same {l} {m} segment same o filed =
      ap (λ places. concat (map (with_those_before (remote_of m segment)) places))
      (same.delayed.at segment o)
      ∙ before_same segment (list_at l.delayed segment) same o (filed.delayed segment)

  -- a place of the side was sent
  sent_same_by : {l m : Lists} (place : ℕ) (b : Bool) → ListsOn on own l m
      → on (segment_of place) ≡ true → ListsOn on own (sent_by l place b) (sent_by m place b)
  sent_same_by place true same o = record {
    free = same.free;
    local_free = same.local_free;
    thread_free =
        set_both (page_of place) same.thread_free
        (ap (λ xs. slot (page_of place) (index_of place) ∷ xs)
        (same.thread_free.at (page_of place) (ap on (segment_of_paged place) ∙ o)));
    delayed = set_both (segment_of place) same.delayed (same.delayed.at (segment_of place) o);
  }
  sent_same_by place false same o = record {
    free = same.free;
    local_free = same.local_free;
    thread_free = same.thread_free;
    delayed =
        set_both (segment_of place) same.delayed
        (ap (λ xs. slot (page_of place) (index_of place) ∷ xs)
        (same.delayed.at (segment_of place) o));
  }

  pub delivered_same : {l m : Lists} (hand : Option ℕ) → ListsOn on own l m
      → ((place : ℕ) → hand ≡ Some place → on (segment_of place) ≡ true)
      → ListsOn on own (delivered l hand) (delivered m hand)
  delivered_same None same o = same
  delivered_same {l} {m} (Some place) same o =
      let page = page_of place in
      let segment = segment_of place in
      let delayed : is_delayed (remote_of m segment) page ≡ is_delayed (remote_of l segment) page =
      ap (list_any (λ p. page_of p == page)) (same.delayed.at segment (o place refl)) in
      subst (λ b. ListsOn on own (delivered l (Some place)) (sent_by m place b)) (sym delayed)
      (sent_same_by place (is_delayed (remote_of l segment) page) same (o place refl))

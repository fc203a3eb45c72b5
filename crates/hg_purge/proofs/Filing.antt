-- Lists that have places of their own number alone.
use Rattle.std.proofs.Common.{◌≡◌, ℕ, ◌+◌, ◌*◌, ◌<◌, ◌≤◌, ◌==◌, inl, inr, Bool, true, false, List}
use Rattle.std.proofs.Common.{[]}
use Rattle.std.proofs.Common.{◌∷◌, length, get_or, set, map, filter, drop, cond, if◌then◌else◌}
use Rattle.std.proofs.Common.{refl, sym, ap, subst, ◌∙◌, arith, Option, Some, None, zero, suc}
use Rattle.std.proofs.Common.{slice_get}
use Rattle.std.specs.List.{AllByRecursion, concat, range_with_len}
use Rattle.hg_place.specs.Places.{page_of, index_of, segment_of, segment_of_page}
use Rattle.std.proofs.lemmas.Bool.{cases_lt}
use Rattle.std.proofs.lemmas.List.{get_or_past}
use Rattle.std.proofs.lemmas.List.FromFn.{length-map-range_with_len, get_or-map-range_with_len}
use Rattle.std.proofs.lemmas.Option.{same_Some, none-some}
use Rattle.hg_page.specs.PageLists.{PageLists}
use Rattle.hg_segment.specs.Kept.{refilled, refilled_by, returned}
use Rattle.hg_heap.specs.Choice.{next_index}
use Rattle.hg_remote.specs.Remote.{slot, is_delayed}
use Rattle.hg_machine.specs.State.{State, record_at, class_at}
use Rattle.hg_machine.specs.Room.{is_usable}
use Rattle.hg_machine.proofs.Keeps.{set_cases}
use Rattle.hg_choice.specs.PageLists.{lists_on, with_page, popped}
use Rattle.hg_choice.specs.ListsAfter.{lists_for, given_from, came_home, all_home, delivered}
use Rattle.hg_choice.specs.ListsAfter.{taken, is_collected, collected}
use Rattle.hg_remote.specs.Order.{drained, with_those_before}
use Rattle.hg_machine.specs.Lists.{Lists, list_at}
use Rattle.hg_choice.specs.ListsAfter.{remote_of}
use Rattle.hg_purge.proofs.Agreeing.{AreFiled, IsFiled, sent_by}
use Rattle.hg_purge.proofs.Facts.{all_then, all_append, segment_of_paged}

abbrev Of : ℕ → List ℕ → Type 0
Of segment places = AllByRecursion (λ place. segment_of place ≡ segment) places

-- what a segment was sent is of it
pub drained_filed : (l : Lists) (segment : ℕ) → IsFiled l
    → AllByRecursion (λ place. segment_of place ≡ segment) (drained (remote_of l segment))
drained_filed l segment filed = each (list_at l.delayed segment) (filed.delayed segment)
  where
    before : (place : ℕ) → segment_of place ≡ segment
        → Of segment (list_at l.thread_free (page_of place))
    before place is =
        all_then (λ p. page_of p ≡ page_of place) (λ p. segment_of p ≡ segment)
        (λ p e. sym (segment_of_paged p) ∙ ap segment_of_page e ∙ segment_of_paged place ∙ is)
        (list_at l.thread_free (page_of place)) (filed.thread_free (page_of place))

    each : (places : List ℕ) → Of segment places
        → Of segment (concat (map (with_those_before (remote_of l segment)) places))
    each [] h = tt
    each (place ∷ places) h =
        all_append (λ p. segment_of p ≡ segment)
        (with_those_before (remote_of l segment) place) _
        (all_append (λ p. segment_of p ≡ segment) (list_at l.thread_free (page_of place))
        (place ∷ []) (before place h.0) (h.0, tt))
        (each places h.1)

-- a list written over
set_filed : (of : ℕ → ℕ) (lists : List (List ℕ)) (i : ℕ) (places : List ℕ) → AreFiled of lists
    → AllByRecursion (λ p. of p ≡ i) places → AreFiled of (set lists i places)
set_filed of lists i places filed each = λ j.
    elim (set_cases lists i j places []) as
    (λ _. AllByRecursion (λ p. of p ≡ j) (get_or (set lists i places) j [])) [
      | inl here ↦
          subst (AllByRecursion (λ p. of p ≡ j)) (sym here.1)
          (subst (λ n. AllByRecursion (λ p. of p ≡ n) places) (sym here.0) each)
      | inr other ↦ subst (AllByRecursion (λ p. of p ≡ j)) (sym other) (filed j)
    ]

-- lists of which some are emptied
emptied : (P : ℕ → Type 0) (b : Bool) (places : List ℕ) → AllByRecursion P places
    → AllByRecursion P (if b then [] else places)
emptied P true places each = tt
emptied P false places each = each

emptied_filed : (of : ℕ → ℕ) (lists : List (List ℕ)) (gone : ℕ → Bool) (n : ℕ)
    → AreFiled of lists
    → AreFiled of (map (λ i. if gone i then [] else list_at lists i) (range_with_len 0 n))
emptied_filed of lists gone n filed = λ j.
    let f : ℕ → List ℕ = λ i. if gone i then [] else list_at lists i in
    elim (cases_lt j n) as
    (λ _. AllByRecursion (λ p. of p ≡ j) (get_or (map f (range_with_len 0 n)) j [])) [
      | inl below ↦
          subst (AllByRecursion (λ p. of p ≡ j))
          (sym (get_or-map-range_with_len f 0 n j j [] below (omega arith)))
          (emptied (λ p. of p ≡ j) (gone j) (list_at lists j) (filed j))
      | inr past ↦
          subst (AllByRecursion (λ p. of p ≡ j))
          (sym (get_or_past (map f (range_with_len 0 n)) j []
          (let l = length-map-range_with_len f 0 n in omega arith)))
          tt
    ]

-- the lists of one page
abbrev IsOfPage : ℕ → PageLists → Type 0
IsOfPage page lists =
    AllByRecursion (λ p. page_of p ≡ page) lists.free
    × AllByRecursion (λ p. page_of p ≡ page) lists.local_free

page_filed : (l : Lists) (page : ℕ) (lists : PageLists) → IsFiled l → IsOfPage page lists
    → IsFiled (with_page l page lists)
page_filed l page lists filed each = record {
  free = set_filed page_of l.free page lists.free filed.free each.0;
  local_free = set_filed page_of l.local_free page lists.local_free filed.local_free each.1;
  thread_free = filed.thread_free;
  delayed = filed.delayed;
}

refilled_filed : (page : ℕ) (first : List ℕ) (lists : PageLists) → IsOfPage page lists
    → IsOfPage page (refilled_by first lists)
refilled_filed page [] lists each =
    (all_append (λ p. page_of p ≡ page) lists.free lists.local_free each.0 each.1, tt)
refilled_filed page (x ∷ xs) lists each = each

dropped : (P : ℕ → Type 0) (xs : List ℕ) → AllByRecursion P xs → AllByRecursion P (drop 1 xs)
dropped P [] each = tt
dropped P (x ∷ xs) each = each.1

first_is : (P : ℕ → Type 0) (xs : List ℕ) (x : ℕ) → AllByRecursion P xs → slice_get xs 0 ≡ Some x
    → P x
first_is P [] x each e = absurd (none-some x e)
first_is P (y ∷ ys) x each e = subst P (same_Some _ _ e) each.0

-- the place that a page gives out next is of the page
pub next_filed : (lists : PageLists) (page place : ℕ)
    → AllByRecursion (λ p. page_of p ≡ page) lists.free
    → AllByRecursion (λ p. page_of p ≡ page) lists.local_free
    → next_index lists ≡ Some place → page_of place ≡ page
next_filed lists page place free local e =
    first_is (λ p. page_of p ≡ page) (refilled lists).free place
    (refilled_filed page lists.free lists (free, local)).0 e

some_range : (P : ℕ → Type 0) (f : ℕ → Bool) (a n : ℕ)
    → ((x : ℕ) → a ≤ x → x < a + n → P x) → AllByRecursion P (filter f (range_with_len a n))
some_range P f a zero each = tt
some_range P f a (suc n) each =
    kept (f a) (filter f (range_with_len (a + 1) n)) (each a (omega arith) (omega arith))
    (some_range P f (a + 1) n (λ x low high. each x (omega arith) (omega arith)))
  where
    kept : (b : Bool) (xs : List ℕ) → P a → AllByRecursion P xs
        → AllByRecursion P (cond b (a ∷ xs) xs)
    kept true xs here rest = (here, rest)
    kept false xs here rest = rest

for_filed : (s : State) (l : Lists) (size page : ℕ) (class : Option ℕ) → IsFiled l
    → IsOfPage page (lists_for s l size page class)
for_filed s l size page (Some class) filed = (filed.free page, filed.local_free page)
for_filed s l size page None filed = (
  some_range (λ p. page_of p ≡ page) (is_usable s size) (page * 512) 512
      (λ p low high. (omega arith)),
  tt,
)

pub given_filed : (s : State) (l : Lists) (size page : ℕ) → IsFiled l
    → IsFiled (given_from s l size page)
given_filed s l size page filed =
    let lists = lists_for s l size page (class_at s page) in
    let each =
    refilled_filed page lists.free lists (for_filed s l size page (class_at s page) filed) in
    page_filed l page (popped (refilled lists)) filed
    (dropped (λ p. page_of p ≡ page) (refilled lists).free each.0, each.1)

returned_filed : (b : Bool) (lists : PageLists) (place : ℕ) → IsOfPage (page_of place) lists
    → IsOfPage (page_of place) (returned b lists place)
returned_filed true lists place each = each
returned_filed false lists place each = (each.0, (refl, each.1))

pub came_filed : (s : State) (l : Lists) (place : ℕ) → IsFiled l → IsFiled (came_home s l place)
came_filed s l place filed =
    let worn = (record_at s place).generation == s.policy.max_generation in
    page_filed l (page_of place) (returned worn (lists_on l (page_of place)) place) filed
    (returned_filed worn (lists_on l (page_of place)) place
    (filed.free (page_of place), filed.local_free (page_of place)))

homes_filed : (s : State) (l : Lists) (places : List ℕ) → IsFiled l → IsFiled (all_home s l places)
homes_filed s l [] filed = filed
homes_filed s l (place ∷ places) filed =
    homes_filed s (came_home s l place) places (came_filed s l place filed)

pub taken_filed : (s : State) (l : Lists) (segment : ℕ) → IsFiled l → IsFiled (taken s l segment)
taken_filed s l segment filed =
    let homes = homes_filed s l (drained (remote_of l segment)) filed in
    record {
      free = homes.free;
      local_free = homes.local_free;
      thread_free =
          emptied_filed page_of _ (λ page. segment_of_page page == segment) (length s.classes)
          homes.thread_free;
      delayed = set_filed segment_of _ segment [] homes.delayed tt;
    }

slot_is : (place : ℕ) → slot (page_of place) (index_of place) ≡ place
slot_is place = omega arith

sent_filed : (l : Lists) (place : ℕ) (b : Bool) → IsFiled l → IsFiled (sent_by l place b)
sent_filed l place true filed = record {
  free = filed.free;
  local_free = filed.local_free;
  thread_free =
      set_filed page_of l.thread_free (page_of place) _ filed.thread_free
      (ap page_of (slot_is place), filed.thread_free (page_of place));
  delayed =
      set_filed segment_of l.delayed (segment_of place) _ filed.delayed
      (filed.delayed (segment_of place));
}
sent_filed l place false filed = record {
  free = filed.free;
  local_free = filed.local_free;
  thread_free = filed.thread_free;
  delayed =
      set_filed segment_of l.delayed (segment_of place) _ filed.delayed
      (ap segment_of (slot_is place), filed.delayed (segment_of place));
}

pub delivered_filed : (l : Lists) (hand : Option ℕ) → IsFiled l → IsFiled (delivered l hand)
delivered_filed l None filed = filed
delivered_filed l (Some place) filed =
    sent_filed l place (is_delayed (remote_of l (segment_of place)) (page_of place)) filed

pub collected_filed : (s : State) (l : Lists) (w : ℕ) → IsFiled l → IsFiled (collected s l w)
collected_filed s l w filed = record {
  free = emptied_filed page_of l.free (is_collected s w) (length s.classes) filed.free;
  local_free =
      emptied_filed page_of l.local_free (is_collected s w) (length s.classes) filed.local_free;
  thread_free = filed.thread_free;
  delayed = filed.delayed;
}

-- Where the places of a partition are listed.
use Rattle.std.proofs.Common.{◌≡◌, ℕ, zero, suc, ◌+◌, ◌*◌, ◌==◌, ◌≤◌, inl, inr, Bool, true, false, ◌&&◌, ◌∷◌, [], List, Contains, Option, Some, None, length, refl, sym, ap, subst, ◌∙◌, arith, nat_lt}
use Rattle.std.specs.List.{range_with_len, sum_by}
use Rattle.std.proofs.lemmas.Bool.{cases_eq, and_parts, eq-eqb, eqb-true}
use Rattle.hg_size.specs.Sizes.{places_of}
use Rattle.hg_place.specs.Places.{page_of, segment_of, segment_of_page, index_of}
use Rattle.hg_place.specs.Words.{bit_of}
use Rattle.hg_machine.specs.Life.{Life, home, live, parted, is_home, is_parted}
use Rattle.hg_machine.specs.State.{State, record_at, class_at}
use Rattle.hg_machine.specs.Sweeps.{is_sent, is_sent_to}
use Rattle.hg_machine.specs.Lists.{Kept, IsPartition, list_at, times, is_free, is_free_as}
use Rattle.hg_machine.specs.ListLaws.{ListsHaveTheirOwn, NoneStandsTwice, EachIsListed, ThreadFreeIsDelayed, NoDelayedNoThreadFree}
use Rattle.hg_machine.proofs.Times.{times-append, times-concat, times_there, there_times, sum_by_one}

zero_from : (n : ℕ) → (1 ≤ n → ⊥) → n ≡ 0
zero_from zero none = refl
zero_from (suc n) none = absurd (none (omega arith))

pub bit_true : (b : Bool) → 1 ≤ bit_of b → b ≡ true
bit_true true some = refl
bit_true false some = absurd (omega arith)

free_home : (s : State) (place : ℕ) (class : Option ℕ) → is_free_as s place class ≡ true → is_home (record_at s place).life ≡ true
free_home s place None e = absurd (cc)
free_home s place (Some size) e = (and_parts _ _ (and_parts (nat_lt (index_of place) (places_of size)) _ e).1).0

free_at : (s : State) (page place : ℕ) → is_free s page place ≡ true → (page_of place ≡ page) × (is_home (record_at s place).life ≡ true)
free_at s page place e =
    let a = and_parts (page_of place == page) _ e in
    (eqb-true _ _ a.0, free_home s place (class_at s page) a.1)

sent_at : (s : State) (segment place : ℕ) → is_sent_to s segment place ≡ true → (segment_of place ≡ segment) × (is_sent s place ≡ true)
sent_at s segment place e = let a = and_parts (segment_of place == segment) _ e in (eqb-true _ _ a.0, a.1)

-- the two free lists of a page
free_lists : (k : Kept) (place page : ℕ) → IsPartition k
    → times place (list_at k.lists.free page) + times place (list_at k.lists.local_free page) ≡ bit_of (is_free k.state page place)
free_lists k place page part = sym (times-append place (list_at k.lists.free page) (list_at k.lists.local_free page)) ∙ (part place).free page

-- the lists of a segment
abbrev on_pages : Kept → ℕ → ℕ → ℕ
on_pages k place segment = sum_by (λ page. times place (list_at k.lists.thread_free page)) (range_with_len (segment * 16) 16)

sent_lists : (k : Kept) (place segment : ℕ) → IsPartition k
    → times place (list_at k.lists.delayed segment) + on_pages k place segment ≡ bit_of (is_sent_to k.state segment place)
sent_lists k place segment part =
    ap (λ n. times place (list_at k.lists.delayed segment) + n) (sym (times-concat place (list_at k.lists.thread_free) (range_with_len (segment * 16) 16)))
    ∙ sym (times-append place (list_at k.lists.delayed segment) _)
    ∙ (part place).sent segment

-- the pages of a segment add what the place's own page does
own_pages : (k : Kept) (place : ℕ) → IsPartition k → on_pages k place (segment_of place) ≡ times place (list_at k.lists.thread_free (page_of place))
own_pages k place part =
    sum_by_one (λ page. times place (list_at k.lists.thread_free page)) (page_of place)
    (λ page ne. zero_from _ (λ some. ne (sym ((part place).own_page page (there_times place (list_at k.lists.thread_free page) some)))))
    (segment_of place * 16) 16 (omega arith) (omega arith)

sent_once : (k : Kept) (place : ℕ) → IsPartition k
    → times place (list_at k.lists.delayed (segment_of place)) + times place (list_at k.lists.thread_free (page_of place)) ≡ bit_of (is_sent k.state place)
sent_once k place part =
    ap (λ n. times place (list_at k.lists.delayed (segment_of place)) + n) (sym (own_pages k place part))
    ∙ sent_lists k place (segment_of place) part
    ∙ ap (λ b. bit_of (b && is_sent k.state place)) (eq-eqb (segment_of place) (segment_of place) refl)

pub each_is_listed : EachIsListed
each_is_listed k place part = record {
  free = λ e. free_lists k place (page_of place) part ∙ ap bit_of e;
  sent = λ e. sent_once k place part ∙ ap bit_of e;
}

pub lists_have_their_own : ListsHaveTheirOwn
lists_have_their_own k place part = record {
  free = λ page c.
      let some = times_there place (list_at k.lists.free page) c in
      let both = free_lists k place page part in
      free_at k.state page place (bit_true _ (omega arith));
  local_free = λ page c.
      let some = times_there place (list_at k.lists.local_free page) c in
      let both = free_lists k place page part in
      free_at k.state page place (bit_true _ (omega arith));
  thread_free = λ page c.
      let own : page_of place ≡ page = (part place).own_page page c in
      let some = times_there place (list_at k.lists.thread_free page) c in
      let same = ap (λ p. times place (list_at k.lists.thread_free p)) own in
      let once = sent_once k place part in
      (own, bit_true _ (omega arith));
  delayed = λ segment c.
      let some = times_there place (list_at k.lists.delayed segment) c in
      let all = sent_lists k place segment part in
      sent_at k.state segment place (bit_true _ (omega arith));
}

-- what is more than nothing at one number alone is at most what it is there
only_at : (f : ℕ → ℕ) (n x : ℕ) → (1 ≤ f x → n ≡ x) → f x ≤ f n
only_at f n x at = elim (cases_eq n x) as (λ _. f x ≤ f n) [
  | inl e ↦ let same = ap f e in omega arith
  | inr ne ↦ let none = zero_from (f x) (λ some. ne (at some)) in omega arith
]

one_of_two : (l : Life) (free sent : Bool) → (free ≡ true → is_home l ≡ true) → bit_of free + bit_of (is_parted l && sent) ≤ 1
one_of_two home true sent at = omega arith
one_of_two home false sent at = omega arith
one_of_two (live owner words) true sent at = omega arith
one_of_two (live owner words) false sent at = omega arith
one_of_two (parted owner words) true sent at = absurd (let e = at refl in cc)
one_of_two (parted owner words) false true at = omega arith
one_of_two (parted owner words) false false at = omega arith

pub none_stands_twice : NoneStandsTwice
none_stands_twice k place a b c d part =
    let own = lists_have_their_own k place part in
    let page = page_of place in
    let segment = segment_of place in
    let free = only_at (λ n. times place (list_at k.lists.free n)) page a (λ some. (own.free a (there_times place _ some)).0) in
    let local_free = only_at (λ n. times place (list_at k.lists.local_free n)) page b (λ some. (own.local_free b (there_times place _ some)).0) in
    let thread_free = only_at (λ n. times place (list_at k.lists.thread_free n)) page c (λ some. (own.thread_free c (there_times place _ some)).0) in
    let delayed = only_at (λ n. times place (list_at k.lists.delayed n)) segment d (λ some. (own.delayed d (there_times place _ some)).0) in
    let homes = free_lists k place page part in
    let sents = sent_once k place part in
    let one : bit_of (is_free k.state page place) + bit_of (is_sent k.state place) ≤ 1 = one_of_two (record_at k.state place).life (is_free k.state page place) _ (λ e. (free_at k.state page place e).1) in
    omega arith

pub thread_free_is_delayed : ThreadFreeIsDelayed
thread_free_is_delayed k page place part c =
    let own : page_of place ≡ page = (part place).own_page page c in
    let at : Contains (list_at k.lists.thread_free (page_of place)) place = subst (λ p. Contains (list_at k.lists.thread_free p) place) (sym own) c in
    let first = (part place).delayed at in
    let segment : segment_of place ≡ segment_of_page page = omega arith in
    (first.0, subst (λ s. Contains (list_at k.lists.delayed s) first.0) segment first.1, first.2 ∙ own)

none_there : (xs : List ℕ) → ((x : ℕ) → Contains xs x → ⊥) → xs ≡ []
none_there [] none = refl
none_there (x ∷ xs) none = absurd (none x (0, omega arith, refl))

empty : (xs : List ℕ) (x : ℕ) → xs ≡ [] → Contains xs x → ⊥
empty xs x e c = let none = ap length e in omega (arith, c.1)

pub no_delayed_no_thread_free : NoDelayedNoThreadFree
no_delayed_no_thread_free k page part none =
    none_there (list_at k.lists.thread_free page)
    (λ place c.
    let first = thread_free_is_delayed k page place part c in
    empty (list_at k.lists.delayed (segment_of_page page)) first.0 none first.1)

-- A partition by tests of finitely many pages and segments.
use Rattle.std.proofs.Common.{◌≡◌, ℕ, ◌+◌, ◌*◌, ◌==◌, ◌<◌, ◌≤◌, inl, inr, Bool, true, false, ◌&&◌, [], ◌++◌, List, Contains, filter, map, length, sym, ap, ◌∙◌, arith}
use Rattle.std.specs.List.{concat, list_all, list_any, range_with_len}
use Rattle.std.proofs.lemmas.Bool.{cases_lt, eqb-true, ne_eqb, and_left, and_right, and_parts}
use Rattle.std.proofs.lemmas.List.{get_or_past, get_or_default}
use Rattle.std.proofs.lemmas.List.Sums.{AllPass-from_list_all}
use Rattle.std.proofs.lemmas.List.Folds.{Any-from_list_any}
use Rattle.std.proofs.lemmas.List.FromFn.{length-range_with_len, get_or-range_with_len}
use Rattle.hg_place.specs.Places.{page_of, segment_of}
use Rattle.hg_place.specs.Words.{bit_of}
use Rattle.hg_machine.specs.Sweeps.{is_sent_to, is_sent}
use Rattle.hg_machine.specs.Lists.{Kept, IsPartition, list_at, times, free_in, sent_in, is_free}
use Rattle.hg_machine.proofs.Times.{times-append, times-concat, there_times, sum_by_none}
use Rattle.hg_machine.proofs.Plain.{inside, outside, free_filter, free_past, unsent_past}

-- both lists have each place as often
abbrev pub are_alike : List ℕ → List ℕ → Bool
are_alike xs ys = list_all (λ x. times x xs == times x ys) (xs ++ ys)

-- the free lists of a page have its free places
abbrev pub is_page_in_order : Kept → ℕ → Bool
is_page_in_order k page = are_alike (free_in k.lists page) (filter (is_free k.state page) (range_with_len (page * 512) 512))

-- the lists of a segment have its sent places
abbrev pub is_segment_in_order : Kept → ℕ → Bool
is_segment_in_order k segment =
    are_alike (sent_in k.lists segment) (filter (is_sent_to k.state segment) (range_with_len 0 (length k.state.records)))

-- the thread-free list of a page has places of that page, and some place of it is delayed, if any
abbrev pub is_thread_free_told : Kept → ℕ → Bool
is_thread_free_told k page =
    list_all
    (λ place. page_of place == page && list_any (λ first. page_of first == page_of place) (list_at k.lists.delayed (segment_of place)))
    (list_at k.lists.thread_free page)

-- each page and each segment passes, and there are no more of them
pub record PassesTests (k : Kept) (pages segments : ℕ) : Type 0 where
  pub classes : length k.state.classes ≤ pages
  pub free : length k.lists.free ≤ pages
  pub local_free : length k.lists.local_free ≤ pages
  pub thread_free : length k.lists.thread_free ≤ pages
  pub delayed : length k.lists.delayed ≤ segments
  pub records : length k.state.records ≤ segments * 8192
  pub few_pages : pages ≤ segments * 16
  pub pages_pass : list_all (is_page_in_order k) (range_with_len 0 pages) ≡ true
  pub segments_pass : list_all (is_segment_in_order k) (range_with_len 0 segments) ≡ true
  pub told : list_all (is_thread_free_told k) (range_with_len 0 pages) ≡ true

passes : (p : ℕ → Bool) (xs : List ℕ) → list_all p xs ≡ true → (x : ℕ) → Contains xs x → p x ≡ true
passes p xs e x c = ap p (sym c.2) ∙ AllPass-from_list_all p xs e c.0 x c.1

below : (p : ℕ → Bool) (n : ℕ) → list_all p (range_with_len 0 n) ≡ true → (k : ℕ) → k < n → p k ≡ true
below p n e k low =
    let len = length-range_with_len 0 n in
    passes p (range_with_len 0 n) e k (k, omega arith, get_or-range_with_len 0 n k k low ∙ (omega arith))

times_alike : (xs ys : List ℕ) → are_alike xs ys ≡ true → (place : ℕ) → times place xs ≡ times place ys
times_alike xs ys e place =
    let both = times-append place xs ys in
    elim (cases_lt 0 (times place (xs ++ ys))) as (λ _. times place xs ≡ times place ys) [
      | inl some ↦ eqb-true _ _ (passes (λ x. times x xs == times x ys) (xs ++ ys) e place (there_times place (xs ++ ys) (omega arith)))
      | inr none ↦ omega arith
    ]

nothing_on : (xss : List (List ℕ)) (n place : ℕ) → length xss ≤ n → times place (list_at xss n) ≡ 0
nothing_on xss n place past = ap (times place) (get_or_past xss n [] past)

free_clause : (k : Kept) (pages segments : ℕ) → PassesTests k pages segments → (place page : ℕ) → times place (free_in k.lists page) ≡ bit_of (is_free k.state page place)
free_clause k pages segments t place page = elim (cases_lt page pages) as (λ _. times place (free_in k.lists page) ≡ bit_of (is_free k.state page place)) [
  | inl low ↦
      times_alike (free_in k.lists page) (filter (is_free k.state page) (range_with_len (page * 512) 512)) (below (is_page_in_order k) pages t.pages_pass page low) place
      ∙ free_filter k.state place page
  | inr past ↦
      let both = times-append place (list_at k.lists.free page) (list_at k.lists.local_free page) in
      let one = nothing_on k.lists.free page place (omega (arith, t.free)) in
      let two = nothing_on k.lists.local_free page place (omega (arith, t.local_free)) in
      let none = ap bit_of (free_past k.state place page (omega (arith, t.classes))) in
      omega arith
]

sent_filter : (k : Kept) (place segment : ℕ) → times place (filter (is_sent_to k.state segment) (range_with_len 0 (length k.state.records))) ≡ bit_of (is_sent_to k.state segment place)
sent_filter k place segment = elim (cases_lt place (length k.state.records)) as (λ _. times place (filter (is_sent_to k.state segment) (range_with_len 0 (length k.state.records))) ≡ bit_of (is_sent_to k.state segment place)) [
  | inl low ↦ inside (is_sent_to k.state segment) 0 (length k.state.records) place (omega arith) (omega arith)
  | inr past ↦
      outside (is_sent_to k.state segment) 0 (length k.state.records) place (inr (omega arith))
      ∙ sym (ap bit_of (and_right (segment_of place == segment) _ (unsent_past k.state place past)))
]

sent_past : (k : Kept) (place segment segments : ℕ) → length k.state.records ≤ segments * 8192 → segments ≤ segment → is_sent_to k.state segment place ≡ false
sent_past k place segment segments few past = elim (cases_lt place (length k.state.records)) as (λ _. is_sent_to k.state segment place ≡ false) [
  | inl low ↦ and_left (segment_of place == segment) (is_sent k.state place) (ne_eqb _ _ (λ e. omega arith))
  | inr out ↦ and_right (segment_of place == segment) _ (unsent_past k.state place out)
]

sent_clause : (k : Kept) (pages segments : ℕ) → PassesTests k pages segments → (place segment : ℕ) → times place (sent_in k.lists segment) ≡ bit_of (is_sent_to k.state segment place)
sent_clause k pages segments t place segment = elim (cases_lt segment segments) as (λ _. times place (sent_in k.lists segment) ≡ bit_of (is_sent_to k.state segment place)) [
  | inl low ↦
      times_alike (sent_in k.lists segment) (filter (is_sent_to k.state segment) (range_with_len 0 (length k.state.records))) (below (is_segment_in_order k) segments t.segments_pass segment low) place
      ∙ sent_filter k place segment
  | inr past ↦
      let few = t.few_pages in
      let lists = t.thread_free in
      times-append place (list_at k.lists.delayed segment) _
      ∙ ap (λ n. n + times place (concat (map (list_at k.lists.thread_free) (range_with_len (segment * 16) 16)))) (nothing_on k.lists.delayed segment place (omega (arith, t.delayed)))
      ∙ ap (λ n. 0 + n) (times-concat place (list_at k.lists.thread_free) (range_with_len (segment * 16) 16)
      ∙ sum_by_none (λ page. times place (list_at k.lists.thread_free page)) pages (λ page h. nothing_on k.lists.thread_free page place (omega arith)) (segment * 16) 16 (omega arith))
      ∙ sym (ap bit_of (sent_past k place segment segments t.records past))
]

-- what is thread-free is told
told_at : (k : Kept) (pages segments : ℕ) → PassesTests k pages segments → (place page : ℕ) → Contains (list_at k.lists.thread_free page) place
    → (page_of place == page && list_any (λ first. page_of first == page_of place) (list_at k.lists.delayed (segment_of place))) ≡ true
told_at k pages segments t place page c = elim (cases_lt page pages) as (λ _. (page_of place == page && list_any (λ first. page_of first == page_of place) (list_at k.lists.delayed (segment_of place))) ≡ true) [
  | inl low ↦
      passes (λ x. page_of x == page && list_any (λ first. page_of first == page_of x) (list_at k.lists.delayed (segment_of x))) (list_at k.lists.thread_free page)
      (below (is_thread_free_told k) pages t.told page low) place c
  | inr past ↦ let none = ap length (get_or_past k.lists.thread_free page [] (omega (arith, t.thread_free))) in absurd (omega (arith, c.1))
]

pub tests_are_enough : (k : Kept) (pages segments : ℕ) → PassesTests k pages segments → IsPartition k
tests_are_enough k pages segments t place = record {
  free = free_clause k pages segments t place;
  sent = sent_clause k pages segments t place;
  own_page = λ page c. eqb-true _ _ ((and_parts (page_of place == page) _ (told_at k pages segments t place page c)).0);
  delayed = λ c.
      let told = (and_parts (page_of place == page_of place) _ (told_at k pages segments t place (page_of place) c)).1 in
      let a = Any-from_list_any (λ first. page_of first == page_of place) (list_at k.lists.delayed (segment_of place)) told in
      (a.1, (a.0, a.2, get_or_default (list_at k.lists.delayed (segment_of place)) a.0 a.1 a.1 a.2 ∙ a.3), eqb-true _ _ a.4);
}

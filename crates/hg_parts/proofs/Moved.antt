-- Segments that come to stand elsewhere keep parts tidy.
use Rattle.std.proofs.Common.{◌≡◌, ℕ, zero, suc, ◌+◌, ◌*◌, ◌%◌, ◌<◌, ◌≤◌, true, nat_eq, nat_lt}
use Rattle.std.proofs.Common.{List, [], ◌∷◌, ◌++◌, length, map, find, is_some, count_by, slice_set}
use Rattle.std.proofs.Common.{slice_index_or, refl, sym, ap, ◌∙◌, arith, subst, inl, inr, ⊎_elim}
use Rattle.std.specs.Prelude.{Option, Some, None, All, slice_get}
use Rattle.std.specs.List.{range_with_len, list_any}
use Rattle.std.proofs.lemmas.Bool.{cases_eq, cases_Bool}
use Rattle.std.proofs.lemmas.List.{length-set}
use Rattle.std.proofs.lemmas.List.Elements.{All-from_recursion}
use Rattle.hg_lists.specs.Repeats.{HasNoRepeats}
use Rattle.hg_lists.proofs.RepeatsLemmas.{nat_eq-same, nat_eq-other, in_cases, count_by-in}
use Rattle.hg_lists.proofs.RepeatsLemmas.{count_by-lacks}
use Rattle.hg_place.specs.Words.{bit_of}
use Rattle.hg_place.specs.Places.{segment_of}
use Rattle.hg_machine.specs.Life.{never_used, is_parted}
use Rattle.hg_machine.specs.State.{held}
use Rattle.hg_agreement.specs.LeftPut.{numbers}
use Rattle.hg_agreement.specs.Moves.{with_orphan}
use Rattle.hg_agreement.specs.Parts.{Plain, Parts, is_of, heap_at, plain_of, record_by, record_of}
use Rattle.hg_agreement.specs.Pool.{without, with_adopted}
use Rattle.hg_agreement.proofs.Adopts.{up_plain}
use Rattle.hg_agreement.proofs.Firsts.{count_append, some_counted, none_counted}
use Rattle.hg_agreement.proofs.Leaves.{go_plain}
use Rattle.hg_agreement.proofs.Lookups.{maps}
use Rattle.hg_agreement.proofs.Openings.{count_numbers}
use Rattle.hg_agreement.proofs.Orders.{count_more, none_without, others_without}
use Rattle.hg_agreement.proofs.Orders.{taken_up_keeps_order}
use Rattle.hg_parts.specs.Rights.{held_from, segments_in, found_in, is_numbered, IsSegmentRight}
use Rattle.hg_parts.specs.Tidy.{IsTidy}
use Rattle.hg_parts.specs.Moved.{moved, MovedIsTidy, LetGoIsTidy, TakenUpIsTidy}
use Rattle.hg_parts.proofs.Flat.{E, plain_in, plain_is, any_is}
use Rattle.hg_parts.proofs.Founds.{each_at, only_found, stands_counts}
use Rattle.hg_parts.proofs.Records.{right}
use Rattle.hg_parts.proofs.Sound.{count_map}
use Rattle.hg_parts.proofs.Sorted.{tidy_sorted, tidy_pooled, counted_apart, heap_once, some_in}
use Rattle.hg_parts.proofs.Times.{bit_small}

-- what is so of the entry that is found is so of its segment
of_plain : (P : Plain → Type 0) (o : Option E) (s : Plain) → plain_in o ≡ Some s
    → ((e : E) → o ≡ Some e → P e.1) → P s
of_plain P None s is f = absurd (cc)
of_plain P (Some e) s is f = subst P (grind (arith, is)) (f e refl)

module _ (parts : Parts) (heaps : List (List Plain)) (orphans unused : List Plain)
    (t : IsTidy parts)
    (counts : (n : ℕ) → count_by (is_numbered n) (segments_in (moved parts heaps orphans unused))
    ≡ count_by (is_numbered n) (segments_in parts))
    (same : (n : ℕ) → plain_of (moved parts heaps orphans unused) n ≡ plain_of parts n) where
  abbrev after : Parts
  after = moved parts heaps orphans unused

  -- each is one that stood there before
  was_right : (k : ℕ) (e : E) → slice_get (segments_in after) k ≡ Some e
      → IsSegmentRight parts.policy e.1
  was_right k e there =
      let n = e.1.holding.number in
      let passes : is_numbered n e ≡ true = nat_eq-same n in
      let some = stands_counts (is_numbered n) (segments_in after) k e there passes in
      let one : count_by (is_numbered n) (segments_in after) ≡ 1 =
      omega (
        arith,
        some,
        counts n,
        t.segments.once n,
        bit_small
            (nat_lt n (length parts.policy.segments)),
      ) in
      let found = only_found (is_numbered n) (segments_in after) k e there passes one in
      let before : plain_in (found_in parts n) ≡ Some e.1 = sym (plain_is parts n) ∙ sym (same n)
      ∙ plain_is after n ∙ ap plain_in found in
      of_plain (IsSegmentRight parts.policy) (found_in parts n) e.1 before
      (right parts t.segments n)

  pub all_right : All (λ e. IsSegmentRight parts.policy e.1) (segments_in after)
  all_right =
      All-from_recursion (λ e. IsSegmentRight parts.policy e.1) (segments_in after)
      (each_at (λ e. IsSegmentRight parts.policy e.1) (segments_in after) was_right)

pub moved_tidy : MovedIsTidy
moved_tidy parts heaps orphans unused t long counts same rising = record {
  segments = record {
    heaps = long ∙ t.segments.heaps;
    hands = t.segments.hands;
    remotes = t.segments.remotes;
    once = λ n. counts n ∙ t.segments.once n;
    each = all_right parts heaps orphans unused t counts same;
  };
  remotes = t.remotes;
  out_once = λ place. t.out_once place
      ∙ ap (λ rs. bit_of (is_parted (slice_index_or rs place never_used).life))
      (sym (maps (record_of (moved parts heaps orphans unused)) (record_of parts)
      (range_with_len 0 (length parts.policy.segments * 8192))
      (λ q. ap (λ o. record_by o (q % 8192)) (same (segment_of q)))));
  rising = rising;
}

-- as often as it is found, where it doesn't stand twice

found_bit : (n : ℕ) (xs : List Plain) → count_by (is_of n) xs ≤ 1 → count_by (is_of n) xs
    ≡ bit_of (is_some (find (is_of n) xs))
found_bit n xs small = elim (cases_Bool (list_any (is_of n) xs)) [
  | inl some ↦
      let one : bit_of (is_some (find (is_of n) xs)) ≡ 1 = ap bit_of (sym (any_is n xs) ∙ some) in
      omega (arith, small, one, some_counted (is_of n) xs some)
  | inr none ↦ none_counted (is_of n) xs none ∙ sym (ap bit_of (sym (any_is n xs) ∙ none))
]

pub no_twice : (n : ℕ) (xs : List Plain) → HasNoRepeats (numbers xs) → count_by (is_of n) xs ≤ 1
no_twice n xs once = subst (λ k. k ≤ 1) (sym (count_numbers n xs)) (⊎_elim
    (λ on. omega (arith, count_by-in n (numbers xs) once on))
    (λ off. omega (arith, count_by-lacks n (numbers xs) off))
    (in_cases n (numbers xs)))

-- heaps with another one for a worker
pub held_set : (n k : ℕ) (hs : List (List Plain)) (w : ℕ) (heap : List Plain) → w < length hs
    → count_by (is_numbered n) (held_from k (slice_set hs w heap)) + count_by (is_of n)
    (slice_index_or hs w []) ≡ count_by (is_numbered n) (held_from k hs) + count_by (is_of n) heap
held_set n k [] w heap below = absurd (omega (arith, below))
held_set n k (x ∷ xs) zero heap below = omega (
  arith,
  count_append (is_numbered n) (map (λ s. (held k, s)) heap) (held_from (k + 1) xs),
  count_append (is_numbered n) (map (λ s. (held k, s)) x) (held_from (k + 1) xs),
  count_map n (held k) heap,
  count_map n (held k) x,
)
held_set n k (x ∷ xs) (suc w) heap below = omega (
  arith,
  count_append (is_numbered n) (map (λ s. (held k, s)) x) (held_from (k + 1) (slice_set xs w heap)),
  count_append (is_numbered n) (map (λ s. (held k, s)) x) (held_from (k + 1) xs),
  held_set n (k + 1) xs w heap (omega (arith, below)),
)

-- a segment is let go

pub let_go_tidy : LetGoIsTidy
let_go_tidy parts worker heap one t go once =
    moved_tidy parts (slice_set parts.heaps worker heap) (parts.orphans ++ one ∷ []) parts.fresh t
    (length-set parts.heaps worker heap) counts
    (go_plain parts worker heap one (tidy_sorted parts t) go) t.rising
  where
    had : (n : ℕ) → count_by (is_of n) (heap_at parts worker)
        ≡ bit_of (is_some (find (is_of n) (heap_at parts worker)))
    had n = found_bit n (heap_at parts worker) (heap_once parts t n worker)

    has_now : (n : ℕ) → count_by (is_of n) heap ≡ bit_of (is_some (find (is_of n) heap))
    has_now n = found_bit n heap (no_twice n heap once)

    moves : (n : ℕ) → count_by (is_of n) (heap_at parts worker) ≡ count_by (is_of n) heap + bit_of
        (nat_eq one.holding.number n)
    moves n = elim (cases_eq n one.holding.number) [
      | inl e ↦
          let a : bit_of (is_some (find (is_of n) (heap_at parts worker))) ≡ 1 =
          ap (λ m. bit_of (is_some (find (is_of m) (heap_at parts worker)))) e
          ∙ ap (λ o. bit_of (is_some o)) go.there in
          let b : bit_of (is_some (find (is_of n) heap)) ≡ 0 =
          ap (λ m. bit_of (is_some (find (is_of m) heap))) e ∙ ap (λ o. bit_of (is_some o))
          go.gone in
          let c : bit_of (nat_eq one.holding.number n) ≡ 1 =
          ap (λ m. bit_of (nat_eq one.holding.number m)) e
          ∙ ap bit_of (nat_eq-same one.holding.number) in
          omega (arith, had n, has_now n, a, b, c)
      | inr ne ↦
          let a : bit_of (is_some (find (is_of n) heap))
          ≡ bit_of (is_some (find (is_of n) (heap_at parts worker))) = ap (λ o. bit_of (is_some o))
          (go.others n ne) in
          let c : bit_of (nat_eq one.holding.number n) ≡ 0 =
          ap bit_of (nat_eq-other one.holding.number n (λ e. ne (sym e))) in
          omega (arith, had n, has_now n, a, c)
    ]

    counts : (n : ℕ) → count_by (is_numbered n) (segments_in (with_orphan parts worker heap one))
        ≡ count_by (is_numbered n) (segments_in parts)
    counts n = omega (
      arith,
      counted_apart (with_orphan parts worker heap one) n,
      counted_apart parts n,
      held_set n 0 parts.heaps worker heap go.worker_below,
      count_more n one parts.orphans parts.fresh,
      moves n,
    )

-- one of the pool is taken up

pub taken_up_tidy : TakenUpIsTidy
taken_up_tidy parts worker heap one t up once =
    moved_tidy parts (slice_set parts.heaps worker heap) (without one.holding.number parts.orphans)
    (without one.holding.number parts.fresh) t
    (length-set parts.heaps worker heap) counts
    (up_plain parts worker heap one (tidy_pooled parts t) up)
    (taken_up_keeps_order parts worker heap one (tidy_sorted parts t) (tidy_pooled parts t)
    up).1.rising
  where
    counts : (n : ℕ) → count_by (is_numbered n)
        (segments_in (with_adopted parts worker heap one.holding.number))
        ≡ count_by (is_numbered n) (segments_in parts)
    counts n =
        let m = one.holding.number in
        let now = counted_apart (with_adopted parts worker heap m) n in
        let was = counted_apart parts n in
        let set = held_set n 0 parts.heaps worker heap up.worker_below in
        let pool = count_append (is_of n) (without m parts.orphans) (without m parts.fresh) in
        let pooled = count_append (is_of n) parts.orphans parts.fresh in
        let heap-is = found_bit n heap (no_twice n heap once) in
        let had = found_bit n (heap_at parts worker) (heap_once parts t n worker) in
        elim (cases_eq n m) [
          | inl e ↦
              let a : count_by (is_of n) (without m parts.orphans) ≡ 0 =
              ap (λ k. count_by (is_of k) (without m parts.orphans)) e
              ∙ none_without m parts.orphans in
              let b : count_by (is_of n) (without m parts.fresh) ≡ 0 =
              ap (λ k. count_by (is_of k) (without m parts.fresh)) e ∙ none_without m parts.fresh in
              let c : bit_of (is_some (find (is_of n) heap)) ≡ 1 =
              ap (λ k. bit_of (is_some (find (is_of k) heap))) e ∙ ap (λ o. bit_of (is_some o))
              up.came in
              let some = some_counted (is_of n) (parts.orphans ++ parts.fresh)
              (any_is n (parts.orphans ++ parts.fresh)
              ∙ ap (λ k. is_some (find (is_of k) (parts.orphans ++ parts.fresh))) e
              ∙ ap is_some up.there) in
              let low = some_in n 0 parts.heaps worker in
              omega (
                arith,
                now,
                was,
                set,
                pool,
                heap-is,
                a,
                b,
                c,
                some,
                low,
                t.segments.once n,
                bit_small (nat_lt n (length parts.policy.segments)),
              )
          | inr ne ↦
              let a = others_without m n parts.orphans ne in
              let b = others_without m n parts.fresh ne in
              let c : bit_of (is_some (find (is_of n) heap))
              ≡ bit_of (is_some (find (is_of n) (heap_at parts worker))) =
              ap (λ o. bit_of (is_some o)) (up.others n ne) in
              omega (arith, now, was, set, pool, pooled, heap-is, had, a, b, c)
        ]

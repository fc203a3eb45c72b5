-- In tidy parts each segment stands in one heap, or once in the pool.
use Rattle.std.proofs.Common.{◌≡◌, ◌≢◌, ℕ, zero, suc, ◌+◌, ◌≤◌, Bool, true, false, cond, nat_lt}
use Rattle.std.proofs.Common.{List, [], ◌∷◌, ◌++◌, map, length, count_by, find, is_some}
use Rattle.std.proofs.Common.{slice_index_or, refl, sym, ap, ◌∙◌, arith, inl, inr}
use Rattle.std.specs.Prelude.{Option, Some, None, is_none, ◌&&◌}
use Rattle.std.proofs.lemmas.Bool.{cases_eq, cases_lt, false_from_ne_true, true≢false}
use Rattle.std.proofs.lemmas.Option.{none-some}
use Rattle.std.proofs.lemmas.Bool.Decides.{nat_tests}
use Rattle.std.proofs.lemmas.List.{get_or_past}
use Rattle.hg_place.specs.Words.{bit_of}
use Rattle.hg_machine.specs.State.{Holder, fresh, orphan, held}
use Rattle.hg_machine.proofs.Listed.{bit_true}
use Rattle.hg_agreement.specs.Holdings.{has}
use Rattle.hg_agreement.specs.Parts.{Plain, Parts, is_of, heap_at, holdings, worker_of}
use Rattle.hg_agreement.proofs.Bridge.{first_passes, some_passes}
use Rattle.hg_agreement.proofs.Firsts.{count_cons, count_append, none_counted}
use Rattle.hg_parts.specs.Rights.{held_from, segments_in, is_numbered}
use Rattle.hg_parts.specs.Tidy.{IsTidy, TidyPartsAreSorted, TidyPartsArePooled}
use Rattle.hg_parts.proofs.Flat.{E, has_is, any_is, find_all, with_holder}
use Rattle.hg_parts.proofs.Sound.{count_map}
use Rattle.hg_parts.proofs.Times.{bit_small}

found_step : (b : Bool) (x : E) (r : Option E) (k : ℕ) → is_some (cond b (Some x) r) ≡ true
    → (is_some r ≡ true → 1 ≤ k) → 1 ≤ bit_of b + k
found_step true x r k e f = omega arith
found_step false x r k e f = omega (arith, f e)

found_counts : (p : E → Bool) (xs : List E) → is_some (find p xs) ≡ true → 1 ≤ count_by p xs
found_counts p [] e = absurd (cc)
found_counts p (x ∷ xs) e =
    omega (
      arith,
      count_cons p x xs,
      found_step (p x) x (find p xs) (count_by p xs) e
          (found_counts p xs),
    )

some_with : (h : Holder) (o : Option Plain) → is_some (with_holder h o) ≡ is_some o
some_with h None = refl
some_with h (Some s) = refl

has_counts : (n : ℕ) (h : Holder) (xs : List Plain) → has (holdings xs) n ≡ true
    → 1 ≤ count_by (is_numbered n) (map (λ s. (h, s)) xs)
has_counts n h xs e =
    found_counts (is_numbered n) (map (λ s. (h, s)) xs)
    (ap is_some (find_all n h xs) ∙ some_with h (find (is_of n) xs) ∙ sym (has_is n xs) ∙ e)

one_in : (n k : ℕ) (hs : List (List Plain)) (w : ℕ) → has (holdings (slice_index_or hs w [])) n
    ≡ true → 1 ≤ count_by (is_numbered n) (held_from k hs)
one_in n k [] w e = absurd (cc)
one_in n k (x ∷ xs) zero e =
    omega (
      arith,
      has_counts n (held k) x e,
      count_append (is_numbered n) (map (λ s. (held k, s)) x)
          (held_from (k + 1) xs),
    )
one_in n k (x ∷ xs) (suc w) e =
    omega (
      arith,
      one_in n (k + 1) xs w e,
      count_append (is_numbered n) (map (λ s. (held k, s)) x)
          (held_from (k + 1) xs),
    )

two_in : (n k : ℕ) (hs : List (List Plain)) (w v : ℕ) → w ≢ v
    → has (holdings (slice_index_or hs w [])) n ≡ true → has (holdings (slice_index_or hs v [])) n
    ≡ true → 2 ≤ count_by (is_numbered n) (held_from k hs)
two_in n k [] w v ne e f = absurd (cc)
two_in n k (x ∷ xs) zero zero ne e f = absurd (ne refl)
two_in n k (x ∷ xs) zero (suc v) ne e f =
    omega (
      arith,
      has_counts n (held k) x e,
      one_in n (k + 1) xs v f,
      count_append (is_numbered n)
          (map (λ s. (held k, s)) x) (held_from (k + 1) xs),
    )
two_in n k (x ∷ xs) (suc w) zero ne e f =
    omega (
      arith,
      has_counts n (held k) x f,
      one_in n (k + 1) xs w e,
      count_append (is_numbered n)
          (map (λ s. (held k, s)) x) (held_from (k + 1) xs),
    )
two_in n k (x ∷ xs) (suc w) (suc v) ne e f =
    omega (
      arith,
      two_in n (k + 1) xs w v (λ s. ne (ap suc s)) e f,
      count_append (is_numbered n)
          (map (λ s. (held k, s)) x) (held_from (k + 1) xs),
    )

-- all segments of a number: those of heaps and those of the pool
pub counted_apart : (parts : Parts) (n : ℕ) → count_by (is_numbered n) (segments_in parts)
    ≡ count_by (is_numbered n) (held_from 0 parts.heaps) + count_by (is_of n)
    (parts.orphans ++ parts.fresh)
counted_apart parts n = omega (
  arith,
  count_append (is_numbered n) (held_from 0 parts.heaps)
      (map (λ s. (orphan, s)) parts.orphans ++ map (λ s. (fresh, s)) parts.fresh),
  count_append (is_numbered n) (map (λ s. (orphan, s)) parts.orphans)
      (map (λ s. (fresh, s)) parts.fresh),
  count_append (is_of n) parts.orphans parts.fresh,
  count_map n orphan parts.orphans,
  count_map n fresh parts.fresh,
)

pub tidy_sorted : TidyPartsAreSorted
tidy_sorted parts t = record {
  below = λ w n e.
      let lt : nat_lt n (length parts.policy.segments) ≡ true =
      bit_true (nat_lt n (length parts.policy.segments))
      (omega (arith, total n, one_in n 0 parts.heaps w e)) in
      grind (arith, nat_tests);
  one_heap = λ w v n e f. elim (cases_eq w v) [
    | inl same ↦ same
    | inr ne ↦ absurd (omega (
      arith,
      total n,
      two_in n 0 parts.heaps w v ne e f,
      bit_small
          (nat_lt n (length parts.policy.segments)),
    ))
  ];
}
  where
    total : (n : ℕ) → count_by (is_numbered n) (held_from 0 parts.heaps) ≤ bit_of
        (nat_lt n (length parts.policy.segments))
    total n = omega (arith, t.segments.once n, counted_apart parts n)

-- in no heap does one stand twice

pub some_in : (n k : ℕ) (hs : List (List Plain)) (w : ℕ)
    → count_by (is_of n) (slice_index_or hs w []) ≤ count_by (is_numbered n) (held_from k hs)
some_in n k [] w = omega arith
some_in n k (x ∷ xs) zero =
    omega (
      arith,
      count_map n (held k) x,
      count_append (is_numbered n) (map (λ s. (held k, s)) x)
          (held_from (k + 1) xs),
    )
some_in n k (x ∷ xs) (suc w) =
    omega (
      arith,
      some_in n (k + 1) xs w,
      count_append (is_numbered n) (map (λ s. (held k, s)) x)
          (held_from (k + 1) xs),
    )

pub heap_once : (parts : Parts) → IsTidy parts → (n worker : ℕ)
    → count_by (is_of n) (heap_at parts worker) ≤ 1
heap_once parts t n worker = omega (
  arith,
  some_in n 0 parts.heaps worker,
  t.segments.once n,
  bit_small (nat_lt n (length parts.policy.segments)),
  counted_apart parts n,
)

-- where no heap has it, all that count are in the pool

pub none_in : (n k : ℕ) (hs : List (List Plain))
    → ((w : ℕ) → has (holdings (slice_index_or hs w [])) n ≡ false)
    → count_by (is_numbered n) (held_from k hs) ≡ 0
none_in n k [] none = refl
none_in n k (x ∷ xs) none = omega (
  arith,
  count_append (is_numbered n) (map (λ s. (held k, s)) x) (held_from (k + 1) xs),
  count_map n (held k) x ∙ none_counted (is_of n) x (any_is n x ∙ sym (has_is n x) ∙ none 0),
  none_in n (k + 1) xs (λ w. none (suc w)),
)

module _ (parts : Parts) (t : IsTidy parts) (n : ℕ) where
  segments : ℕ
  segments = length parts.policy.segments

  pooled : count_by (is_of n) (parts.orphans ++ parts.fresh) + count_by (is_numbered n)
      (held_from 0 parts.heaps) ≡ bit_of (nat_lt n segments)
  unfolding segments
  pooled = omega (arith, t.segments.once n, counted_apart parts n)

  has_none : worker_of parts n ≡ None → (w : ℕ) → has (holdings (heap_at parts w)) n ≡ false
  has_none e w = false_from_ne_true _ (λ t. elim (cases_lt w (length parts.heaps)) [
    | inl below ↦
        let some = some_passes (λ v. has (holdings (heap_at parts v)) n) 0 (length parts.heaps) w
        (omega arith) (omega (arith, below)) t in
        none-some some.0 (sym e ∙ some.1)
    | inr past ↦ true≢false
        (sym t ∙ ap (λ h. has (holdings h) n) (get_or_past parts.heaps w [] past))
  ])

  pool_by : (o : Option ℕ) → worker_of parts n ≡ o
      → count_by (is_of n) (parts.orphans ++ parts.fresh) ≡ bit_of (is_none o && nat_lt n segments)
  pool_by None e = omega (arith, pooled, none_in n 0 parts.heaps (has_none e))
  pool_by (Some w) e = omega (
    arith,
    pooled,
    bit_small (nat_lt n segments),
    one_in n 0 parts.heaps w
        (first_passes (λ v. has (holdings (heap_at parts v)) n) 0 (length parts.heaps) w e),
  )

  pub pool_once : count_by (is_of n) (parts.orphans ++ parts.fresh)
      ≡ bit_of (is_none (worker_of parts n) && nat_lt n (length parts.policy.segments))
  unfolding segments
  pool_once = pool_by (worker_of parts n) refl

pub tidy_pooled : TidyPartsArePooled
tidy_pooled parts t = record { once = pool_once parts t; rising = t.rising }

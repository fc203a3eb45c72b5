-- Where the pool of a core has a segment, and another that comes in its place.
use Rattle.std.proofs.Common.{◌≡◌, ◌⊎◌, ℕ, zero, suc, ◌+◌, ◌==◌, ◌≤◌, nat_lt, true, cond, List, []}
use Rattle.std.proofs.Common.{◌∷◌, ◌++◌, length, map, find, count_by, slice_get, slice_set, refl}
use Rattle.std.proofs.Common.{sym, ap, ◌∙◌, arith, inl, inr}
use Rattle.std.specs.Prelude.{Option, Some, None}
use Rattle.std.specs.List.{position_or_len}
use Rattle.std.specs.Option.{option_or}
use Rattle.std.proofs.lemmas.Bool.{cases_Bool}
use Rattle.std.proofs.lemmas.List.Folds.{find_at, find-append}
use Rattle.std.proofs.lemmas.Map.Keys.{any_passes_from_place}
use Rattle.std.proofs.lemmas.Option.{none-some, same_Some}
use Rattle.hg_lists.proofs.RepeatsLemmas.{nat_eq-same}
use Rattle.hg_place.specs.Standings.{slot_of}
use Rattle.hg_place.specs.Words.{bit_of}
use Rattle.hg_segment.specs.Parted.{plain_number}
use Rattle.hg_pool.specs.Pooled.{segment_of, is_numbered, replaced}
use Rattle.hg_heap.proofs.Founds.{get-map, passes}
use Rattle.hg_agreement.specs.Parts.{Plain, plain_from, plain_of, is_of}
use Rattle.hg_agreement.proofs.Firsts.{count_cons, count_append, some_counted}
use Rattle.hg_parts.specs.Spots.{Spot, in_orphans, in_fresh, segment_at}
use Rattle.hg_parts.specs.Tidy.{IsTidy}
use Rattle.hg_parts.proofs.Sorted.{counted_apart}
use Rattle.hg_parts.proofs.SpotPuts.{spot_found}
use Rattle.hg_parts.proofs.Times.{bit_small}
use Rattle.hg_events.specs.Core.{Core, parts_of}
use Rattle.hg_events.specs.Elsewhere.{word_by, PoolWordIsWordAt}
use Rattle.hg_events.proofs.PlainLists.{K}

-- how many segments have the number
abbrev pub count : ℕ → List K → ℕ
count n xs = count_by (is_of n) (map plain_from xs)

counted : (n : ℕ) (x : K) (xs : List K)
    → count n (x ∷ xs) ≡ bit_of (x.slots.segment == n) + count n xs
counted n x xs = count_cons (is_of n) (plain_from x) (map plain_from xs)

-- one that stands there counts
counts : (n : ℕ) (one : K) (xs : List K) (at : ℕ) → slice_get xs at ≡ Some one
    → one.slots.segment ≡ n → 1 ≤ count n xs
counts n one xs at there own =
    some_counted (is_of n) (map plain_from xs)
    (any_passes_from_place (is_of n) (map plain_from xs) at (plain_from one)
    (get-map plain_from xs at one there) (ap (λ (k : ℕ). k == n) own ∙ nat_eq-same n))

-- one that comes in the place of that of its number

pub replaced_none : (n : ℕ) (now : K) (xs : List K) → count n xs ≡ 0
    → replaced plain_number n now xs ≡ xs
replaced_none n now [] none = refl
replaced_none n now (x ∷ xs) none =
    elim (cases_Bool (x.slots.segment == n)) [
      | inl t ↦ absurd (omega (arith, none, counted n x xs, ap bit_of t))
      | inr f ↦ ap (λ b. cond b now x ∷ replaced plain_number n now xs) f
          ∙ ap (λ ys. x ∷ ys)
          (replaced_none n now xs (omega (arith, none, counted n x xs)))
    ]

pub replaced_one : (n : ℕ) (one now : K) (xs : List K) (at : ℕ) → slice_get xs at ≡ Some one
    → one.slots.segment ≡ n → count n xs ≤ 1
    → replaced plain_number n now xs ≡ slice_set xs at now
replaced_one n one now [] at there own few = absurd (none-some one there)
replaced_one n one now (x ∷ xs) zero there own few =
    let passes : (x.slots.segment == n) ≡ true =
    ap (λ (k : K). k.slots.segment == n) (same_Some x one there)
    ∙ ap (λ (k : ℕ). k == n) own ∙ nat_eq-same n in
    ap (λ b. cond b now x ∷ replaced plain_number n now xs) passes
    ∙ ap (λ ys. now ∷ ys)
    (replaced_none n now xs (omega (arith, few, counted n x xs, ap bit_of passes)))
replaced_one n one now (x ∷ xs) (suc at) there own few =
    let some = counts n one xs at there own in
    elim (cases_Bool (x.slots.segment == n)) [
      | inl t ↦ absurd (omega (arith, some, few, counted n x xs, ap bit_of t))
      | inr f ↦ ap (λ b. cond b now x ∷ replaced plain_number n now xs) f
          ∙ ap (λ ys. x ∷ ys)
          (replaced_one n one now xs at there own (omega (arith, few, counted n x xs)))
    ]

-- it stands on one of the lists, alone of its number, and the other has none of that number
pub record StandsAmong (n : ℕ) (one : K) (own others : List K) : Type 0 where
  pub at : ℕ
  pub there : slice_get own at ≡ Some one
  pub few : count n own ≤ 1
  pub none : count n others ≡ 0

module _ (core : Core) (n : ℕ) (one : K) (t : IsTidy (parts_of core))
    (pooled : segment_of plain_number core.pool n ≡ Some one) where
  abbrev os : List K
  os = core.pool.orphans

  abbrev fs : List K
  fs = core.pool.fresh

  pub own_number : plain_number one.slots ≡ n
  own_number = passes plain_number (os ++ fs) n one pooled

  once : count n os + count n fs ≤ 1
  once = omega (
    arith,
    count_append (is_of n) (map plain_from os) (map plain_from fs),
    counted_apart (parts_of core) n,
    t.segments.once n,
    bit_small (nat_lt n (length core.policy.segments)),
  )

  stands : (xs ys : List K) → find (is_numbered plain_number n) xs ≡ Some one
      → count n xs + count n ys ≤ 1 → StandsAmong n one xs ys
  stands xs ys found few =
      let at = position_or_len (is_numbered plain_number n) xs in
      let there : slice_get xs at ≡ Some one =
      sym (find_at (is_numbered plain_number n) xs) ∙ found in
      let some = counts n one xs at there own_number in
      record {
        at = at;
        there = there;
        few = omega (arith, few);
        none = omega (arith, few, some);
      }

  by_find : (o : Option K) → find (is_numbered plain_number n) os ≡ o
      → option_or o (find (is_numbered plain_number n) fs) ≡ Some one
      → StandsAmong n one os fs ⊎ StandsAmong n one fs os
  by_find None e found = inr (stands fs os found (omega (arith, once)))
  by_find (Some x) e found = inl (stands os fs (e ∙ found) once)

  -- among the orphans or among the fresh ones
  pub stands_pooled : StandsAmong n one os fs ⊎ StandsAmong n one fs os
  stands_pooled =
      by_find (find (is_numbered plain_number n) os) refl
      (sym (find-append (is_numbered plain_number n) os fs) ∙ pooled)

  plain_at : (spot : Spot) → segment_at (parts_of core) spot ≡ Some (plain_from one)
      → plain_of (parts_of core) n ≡ Some (plain_from one)
  plain_at spot there =
      ap (plain_of (parts_of core)) (sym own_number)
      ∙ (spot_found (parts_of core) spot (plain_from one) t there).1

  pub pool_segment : plain_of (parts_of core) n ≡ Some (plain_from one)
  pool_segment =
      elim stands_pooled [
        | inl among ↦
            plain_at (in_orphans among.at) (get-map plain_from os among.at one among.there)
        | inr among ↦
            plain_at (in_fresh among.at) (get-map plain_from fs among.at one among.there)
      ]

pub pool_word_is_word_at : PoolWordIsWordAt
pool_word_is_word_at core place word t of =
    ap (λ (o : Option Plain). word_by o (slot_of place))
    (pool_segment core place.segment of.0 t of.1)
    ∙ sym of.2

-- A worker's idle pages lose their class, and parts stay tidy.
use Rattle.std.proofs.Common.{◌≡◌, ℕ, zero, suc, ◌+◌, ◌<◌, List, [], ◌∷◌, ◌++◌, length, map, nat_eq}
use Rattle.std.proofs.Common.{count_by, slice_set, refl, sym, ap, ◌∙◌, arith}
use Rattle.std.specs.Prelude.{All}
use Rattle.std.specs.List.{AllByRecursion}
use Rattle.std.proofs.lemmas.List.{length-set}
use Rattle.std.proofs.lemmas.List.Elements.{recursion_from_All, All-from_recursion}
use Rattle.hg_lists.proofs.RepeatsLemmas.{Each-left, Each-right}
use Rattle.hg_place.specs.Words.{bit_of}
use Rattle.hg_machine.specs.Life.{is_parted}
use Rattle.hg_machine.specs.State.{held, fresh, orphan, record_at}
use Rattle.hg_agreement.specs.LeftPut.{numbers}
use Rattle.hg_agreement.specs.Parts.{Plain, Parts, is_of, heap_at}
use Rattle.hg_agreement.specs.Swept.{AreSwept, with_heap}
use Rattle.hg_agreement.proofs.Clears.{swept_is_cleared}
use Rattle.hg_agreement.proofs.Openings.{count_numbers}
use Rattle.hg_parts.specs.Rights.{held_from, segments_in, is_numbered, IsSegmentRight}
use Rattle.hg_parts.specs.Tidy.{IsTidy}
use Rattle.hg_parts.specs.Swept.{SweptIsTidy}
use Rattle.hg_parts.proofs.Flat.{E}
use Rattle.hg_parts.proofs.Founds.{each_append, each_of}
use Rattle.hg_parts.proofs.Moved.{held_set}
use Rattle.hg_parts.proofs.Sorted.{tidy_sorted, counted_apart}

-- the same numbers, in the same order
swept_numbers : (xs ys : List Plain) → AreSwept xs ys → numbers ys ≡ numbers xs
swept_numbers [] [] s = refl
swept_numbers [] (y ∷ ys) s = let l = s.long in absurd (omega (arith, l))
swept_numbers (x ∷ xs) [] s = let l = s.long in absurd (omega (arith, l))
swept_numbers (x ∷ xs) (y ∷ ys) s =
    let l = s.long in
    ap (λ k. k ∷ numbers ys) (s.each 0 x y refl refl).number
    ∙ ap (λ ks. x.holding.number ∷ ks)
    (swept_numbers xs ys
    (record {
      long = omega (arith, l);
      each = λ found one now e f. s.each (suc found) one now e f;
    }))

-- what is so of each segment of heaps, with another heap for a worker
held_each : (P : Plain → Type 0) (k : ℕ) (hs : List (List Plain)) (w : ℕ) (heap : List Plain)
    → AllByRecursion (λ (e : E). P e.1) (held_from k hs) → AllByRecursion P heap
    → AllByRecursion (λ (e : E). P e.1) (held_from k (slice_set hs w heap))
held_each P k [] w heap all here = all
held_each P k (x ∷ xs) zero heap all here =
    each_append (λ (e : E). P e.1) (map (λ s. (held k, s)) heap) (held_from (k + 1) xs)
    (each_of P (held k) heap here)
    (Each-right (λ (e : E). P e.1) (map (λ s. (held k, s)) x) (held_from (k + 1) xs) all)
held_each P k (x ∷ xs) (suc w) heap all here =
    each_append (λ (e : E). P e.1) (map (λ s. (held k, s)) x)
    (held_from (k + 1) (slice_set xs w heap))
    (Each-left (λ (e : E). P e.1) (map (λ s. (held k, s)) x) (held_from (k + 1) xs) all)
    (held_each P (k + 1) xs w heap
    (Each-right (λ (e : E). P e.1) (map (λ s. (held k, s)) x) (held_from (k + 1) xs) all) here)

module _ (parts : Parts) (worker : ℕ) (heap : List Plain) (t : IsTidy parts)
    (below : worker < length parts.heaps)
    (swept : AreSwept (heap_at parts worker) heap) (right : All (IsSegmentRight parts.policy) heap)
  where
    abbrev Right : E → Type 0
    Right e = IsSegmentRight parts.policy e.1

    abbrev pool : List E
    pool = map (λ s. (orphan, s)) parts.orphans ++ map (λ s. (fresh, s)) parts.fresh

    before : AllByRecursion Right (segments_in parts)
    before = recursion_from_All Right (segments_in parts) t.segments.each

    each : All Right (segments_in (with_heap parts worker heap))
    each = All-from_recursion Right (segments_in (with_heap parts worker heap))
        (each_append Right (held_from 0 (slice_set parts.heaps worker heap)) pool
        (held_each (IsSegmentRight parts.policy) 0 parts.heaps worker heap
        (Each-left Right (held_from 0 parts.heaps) pool before)
        (recursion_from_All (IsSegmentRight parts.policy) heap right))
        (Each-right Right (held_from 0 parts.heaps) pool before))

    same : (n : ℕ) → count_by (is_of n) heap ≡ count_by (is_of n) (heap_at parts worker)
    same n =
        count_numbers n heap ∙ ap (count_by (λ k. nat_eq k n))
        (swept_numbers (heap_at parts worker) heap swept)
        ∙ sym (count_numbers n (heap_at parts worker))

    counts : (n : ℕ) → count_by (is_numbered n) (segments_in (with_heap parts worker heap))
        ≡ count_by (is_numbered n) (segments_in parts)
    counts n =
        omega (
          arith,
          counted_apart (with_heap parts worker heap) n,
          counted_apart parts n,
          held_set n
              0 parts.heaps worker heap below,
          same n,
        )

    pub swept_is : IsTidy (with_heap parts worker heap)
    swept_is = record {
      segments = record {
        heaps = length-set parts.heaps worker heap ∙ t.segments.heaps;
        hands = t.segments.hands;
        remotes = t.segments.remotes;
        once = λ n. counts n ∙ t.segments.once n;
        each = each;
      };
      remotes = t.remotes;
      out_once = λ place. t.out_once place
          ∙ ap (λ s. bit_of (is_parted (record_at s place).life))
          (sym (swept_is_cleared parts worker heap (tidy_sorted parts t) below swept));
      rising = t.rising;
    }

pub swept_tidy : SweptIsTidy
swept_tidy parts worker heap t below swept right = swept_is parts worker heap t below swept right

-- A segment changed where it stands: all others are as they were.
use Rattle.std.proofs.Common.{◌≡◌, ◌≢◌, ℕ, zero, suc, ◌*◌, ◌%◌, ◌<◌, true, false, nat_eq, nat_lt}
use Rattle.std.proofs.Common.{List, [], ◌∷◌, length, count_by, slice_get, slice_set, slice_index_or}
use Rattle.std.proofs.Common.{refl, sym, ap, ◌∙◌, arith, subst, inl, inr}
use Rattle.std.specs.Prelude.{Option, Some}
use Rattle.std.proofs.lemmas.Bool.{cases_lt}
use Rattle.std.proofs.lemmas.Bool.Decides.{nat_tests}
use Rattle.std.proofs.lemmas.List.{length-set}
use Rattle.std.proofs.lemmas.List.Elements.{recursion_from_All, All-from_recursion}
use Rattle.hg_lists.proofs.RepeatsLemmas.{nat_eq-same, nat_eq-other}
use Rattle.hg_place.specs.Words.{bit_of}
use Rattle.hg_place.specs.Places.{segment_of}
use Rattle.hg_machine.specs.Life.{is_parted}
use Rattle.hg_machine.specs.State.{Holder, record_at}
use Rattle.hg_machine.proofs.Listed.{bit_true}
use Rattle.hg_agreement.specs.LeftPut.{numbers}
use Rattle.hg_agreement.specs.Parts.{Plain, Parts, record_by, state_of}
use Rattle.hg_agreement.specs.Pool.{IsRising}
use Rattle.hg_parts.specs.Rights.{segments_in, found_in, is_numbered, IsSegmentRight}
use Rattle.hg_parts.specs.Rights.{AreSegmentsRight}
use Rattle.hg_parts.specs.Accounted.{is_out}
use Rattle.hg_parts.specs.Tidy.{IsTidy}
use Rattle.hg_parts.specs.Spots.{Spot, in_heap, in_orphans, in_fresh, segment_at, heaps_with}
use Rattle.hg_parts.specs.Spots.{orphans_with, fresh_with, with_segment, IsSpotSwap}
use Rattle.hg_parts.proofs.Records.{found, record_here, record_past}
use Rattle.hg_parts.proofs.Swaps.{Swaps, kept_swaps, swaps_count, swaps_counts, swaps_each}
use Rattle.hg_parts.proofs.Swaps.{swaps_find, swaps_old, swaps_new}

-- the same numbers stand in the pool, in the same order

numbers_set : (one now : Plain) (xs : List Plain) (i : ℕ) → slice_get xs i ≡ Some one
    → now.holding.number ≡ one.holding.number → numbers (slice_set xs i now) ≡ numbers xs
numbers_set one now [] i e same = refl
numbers_set one now (x ∷ xs) zero e same =
    let is : x ≡ one = grind (arith, e) in
    ap (λ k. k ∷ numbers xs) (same ∙ sym (ap (λ (y : Plain). y.holding.number) is))
numbers_set one now (x ∷ xs) (suc i) e same =
    ap (λ ks. x.holding.number ∷ ks) (numbers_set one now xs i e same)

pub orphans_same : (parts : Parts) (spot : Spot) (one now : Plain) → segment_at parts spot ≡ Some one
    → now.holding.number ≡ one.holding.number → numbers (orphans_with parts spot now)
    ≡ numbers parts.orphans
orphans_same parts (in_heap w i) one now e same = refl
orphans_same parts (in_orphans i) one now e same = numbers_set one now parts.orphans i e same
orphans_same parts (in_fresh i) one now e same = refl

fresh_same : (parts : Parts) (spot : Spot) (one now : Plain) → segment_at parts spot ≡ Some one
    → now.holding.number ≡ one.holding.number → numbers (fresh_with parts spot now)
    ≡ numbers parts.fresh
fresh_same parts (in_heap w i) one now e same = refl
fresh_same parts (in_orphans i) one now e same = refl
fresh_same parts (in_fresh i) one now e same = numbers_set one now parts.fresh i e same

pub still_rising : {parts : Parts} {spot : Spot} {one now : Plain} → IsTidy parts
    → IsSpotSwap parts spot one now → IsRising 0 (numbers (fresh_with parts spot now))
still_rising {parts} {spot} {one} {now} t put =
    subst (IsRising 0) (sym (fresh_same parts spot one now put.there put.number)) t.rising

module _ {parts : Parts} {spot : Spot} {one now : Plain} (hands : List (Option ℕ)) (t : IsTidy parts) (put : IsSpotSwap parts spot one now)
    (long : length hands ≡ length parts.hands) where
  abbrev n : ℕ
  n = one.holding.number

  abbrev after : Parts
  after = with_segment parts spot now hands

  pub h : Holder
  h = (kept_swaps parts spot one now hands put.there).0

  swap : Swaps (h, one) (h, now) (segments_in parts) (segments_in after)
  unfolding h
  swap = (kept_swaps parts spot one now hands put.there).1

  same_number : (m : ℕ) → is_numbered m (h, one) ≡ is_numbered m (h, now)
  same_number m = ap (λ (k : ℕ). nat_eq k m) (sym put.number)

  is_one : is_numbered n (h, one) ≡ true
  is_one = nat_eq-same n

  counted : (m : ℕ) → count_by (is_numbered m) (segments_in parts)
      ≡ count_by (is_numbered m) (segments_in after)
  counted m =
      swaps_count (is_numbered m) (h, one) (h, now) (segments_in parts) (segments_in after)
      (same_number m) swap

  pub inside : n < length parts.policy.segments
  inside =
      let some = swaps_counts (is_numbered n) (h, one) (h, now) (segments_in parts)
      (segments_in after) is_one swap in
      let lt : nat_lt n (length parts.policy.segments) ≡ true =
      bit_true (nat_lt n (length parts.policy.segments)) (omega (arith, some, t.segments.once n)) in
      grind (arith, nat_tests)

  once_n : count_by (is_numbered n) (segments_in parts) ≡ 1
  once_n =
      t.segments.once n ∙ ap bit_of
      (let i = inside in let lt : nat_lt n (length parts.policy.segments) ≡ true =
      grind (arith, nat_tests) in lt)

  heaps_long : (s : Spot) → length (heaps_with parts s now) ≡ length parts.heaps
  heaps_long (in_heap w i) =
      length-set parts.heaps w (slice_set (slice_index_or parts.heaps w []) i now)
  heaps_long (in_orphans i) = refl
  heaps_long (in_fresh i) = refl

  pub segments : AreSegmentsRight after
  segments = record {
    heaps = heaps_long spot ∙ t.segments.heaps;
    hands = long ∙ t.segments.hands;
    remotes = t.segments.remotes;
    once = λ m. sym (counted m) ∙ t.segments.once m;
    each =
        All-from_recursion (λ e. IsSegmentRight parts.policy e.1) (segments_in after)
        (swaps_each (λ e. IsSegmentRight parts.policy e.1) (h, one) (h, now) (segments_in parts)
        (segments_in after) put.right swap
        (recursion_from_All (λ e. IsSegmentRight parts.policy e.1) (segments_in parts)
        t.segments.each));
  }

  pub found_before : found_in parts n ≡ Some (h, one)
  found_before =
      swaps_old (is_numbered n) (h, one) (h, now) (segments_in parts) (segments_in after) is_one
      once_n swap

  pub found_after : found_in after n ≡ Some (h, now)
  found_after =
      swaps_new (is_numbered n) (h, one) (h, now) (segments_in parts) (segments_in after) is_one
      (sym (same_number n) ∙ is_one) once_n swap

  pub found_other : (m : ℕ) → m ≢ n → found_in parts m ≡ found_in after m
  found_other m ne =
      let no : is_numbered m (h, one) ≡ false = nat_eq-other n m (λ e. ne (sym e)) in
      swaps_find (is_numbered m) (h, one) (h, now) (segments_in parts) (segments_in after) no
      (sym (same_number m) ∙ no) swap

  -- what is recorded of its places, and of all others

  within : (place : ℕ) → segment_of place ≡ n → place < length parts.policy.segments * 8192
  within place e = let i = inside in omega (arith, e, i)

  pub record_was : (place : ℕ) → segment_of place ≡ n → record_at (state_of parts) place
      ≡ record_by (Some one) (place % 8192)
  record_was place e =
      record_here parts t.segments place (h, one) (within place e)
      (ap (found_in parts) e ∙ found_before)

  pub record_now : (place : ℕ) → segment_of place ≡ n → record_at (state_of after) place
      ≡ record_by (Some now) (place % 8192)
  record_now place e =
      record_here after segments place (h, now) (within place e)
      (ap (found_in after) e ∙ found_after)

  pub record_away : (place : ℕ) → segment_of place ≢ n → record_at (state_of after) place
      ≡ record_at (state_of parts) place
  record_away place away =
      elim (cases_lt place (length parts.policy.segments * 8192)) [
        | inl lt ↦
            let f = found parts t.segments (segment_of place) (omega (arith, lt)) in
            record_here after segments place f.0 lt (sym (found_other (segment_of place) away) ∙ f.1)
            ∙ sym (record_here parts t.segments place f.0 lt f.1)
        | inr ge ↦ record_past after segments place ge ∙ sym (record_past parts t.segments place ge)
      ]

  pub out_away : (place : ℕ) → segment_of place ≢ n → is_out after place ≡ is_out parts place
  out_away place away = ap (λ r. is_parted r.life) (record_away place away)

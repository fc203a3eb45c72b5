-- A change of one place, wherever its segment stands, in the state.
use Rattle.std.proofs.Common.{◌≡◌, ◌≢◌, ℕ, ◌+◌, ◌*◌, ◌%◌, ◌<◌, [], length, slice_get, ◌≤◌, true}
use Rattle.std.proofs.Common.{nat_lt, count_by, slice_index_or, subst, refl, sym, ap, ◌∙◌, arith}
use Rattle.std.proofs.Common.{inl, inr}
use Rattle.std.specs.Prelude.{Some, None}
use Rattle.std.specs.List.{range_with_len}
use Rattle.std.proofs.lemmas.Bool.{cases_eq, cases_lt, eq-eqb}
use Rattle.std.proofs.lemmas.List.{get_or_past}
use Rattle.hg_place.specs.Places.{segment_of, segment_of_page}
use Rattle.hg_agreement.specs.Holdings.{class_of}
use Rattle.hg_agreement.specs.Parts.{Plain, Parts, is_of, heap_at, plain_of, record_by, class_by}
use Rattle.hg_agreement.specs.Parts.{page_class, holder_of, state_of}
use Rattle.hg_agreement.proofs.ChangedOne.{ChangesOne, records_changed}
use Rattle.hg_agreement.proofs.Lookups.{maps}
use Rattle.hg_agreement.proofs.Putting.{put_is_put}
use Rattle.hg_parts.specs.Tidy.{IsTidy}
use Rattle.hg_parts.specs.Spots.{Spot, with_segment, IsSpotPut, SpotIsSwap, SpotPutIsRecord}
use Rattle.hg_parts.specs.Spots.{HeapPutIsPut, segment_at, SpotIsFound, SpotShowsItsWord}
use Rattle.hg_parts.proofs.Flat.{plain_in, holder_in, plain_is, holder_is}
use Rattle.hg_parts.proofs.SpotSwapped.{inside, found_before, found_after, found_other, orphans_same}
use Rattle.hg_parts.proofs.Sorted.{tidy_sorted, heap_once}
use Rattle.hg_parts.proofs.Founds.{stands_first}
use Rattle.std.proofs.lemmas.Bool.Decides.{nat_tests}
use Rattle.hg_lists.proofs.RepeatsLemmas.{nat_eq-same}
use Rattle.hg_place.specs.Standings.{standing_at}
use Rattle.hg_machine.specs.State.{Holder, State, with_record}
use Rattle.hg_machine.proofs.Listed.{bit_true}
use Rattle.hg_agreement.specs.Views.{IsWordOf}
use Rattle.hg_parts.specs.Rights.{segments_in, found_in, is_numbered, IsSegmentRight}
use Rattle.hg_parts.proofs.Records.{right}
use Rattle.hg_parts.proofs.Swaps.{Swaps, kept_swaps, swaps_counts, swaps_old}
use Rattle.hg_parts.proofs.Times.{bit_small}

module _ {parts : Parts} {spot : Spot} {one now : Plain} {at : ℕ} (t : IsTidy parts)
    (put : IsSpotPut parts spot one now at) where
  abbrev n : ℕ
  n = one.holding.number

  abbrev after : Parts
  after = with_segment parts spot now parts.hands

  before_here : plain_of parts n ≡ Some one
  before_here =
      plain_is parts n ∙ ap plain_in (found_before parts.hands t put.swap refl)

  after_here : plain_of after n ≡ Some now
  after_here =
      plain_is after n ∙ ap plain_in (found_after parts.hands t put.swap refl)

  plain_other : (m : ℕ) → m ≢ n → plain_of after m ≡ plain_of parts m
  plain_other m ne =
      plain_is after m ∙ sym
      (ap plain_in (found_other parts.hands t put.swap refl m ne))
      ∙ sym (plain_is parts m)

  holder_same : (m : ℕ) → holder_of after m ≡ holder_of parts m
  holder_same m = elim (cases_eq m n) [
    | inl e ↦ rw e (holder_is after n ∙ ap holder_in
        (found_after parts.hands t put.swap refl)
        ∙ sym (holder_is parts n ∙ ap holder_in (found_before parts.hands t put.swap refl)))
    | inr ne ↦ holder_is after m
        ∙ sym (ap holder_in (found_other parts.hands t put.swap refl m ne))
        ∙ sym (holder_is parts m)
  ]

  change : ChangesOne parts after one now at
  change = record {
    was = before_here;
    is = after_here;
    same = plain_other;
    below = put.below;
    others = put.others;
  }

  class_same : ((page : ℕ) → page < 16 → class_of now.holding page ≡ class_of one.holding page)
      → (q : ℕ) → page_class after q ≡ page_class parts q
  class_same classes q =
      elim (cases_eq (segment_of_page q) n) [
        | inl e ↦
            rw e (ap (λ o. class_by o (q % 16)) after_here
            ∙ classes (q % 16) (omega arith)
            ∙ sym (ap (λ o. class_by o (q % 16)) before_here))
        | inr away ↦ ap (λ o. class_by o (q % 16)) (plain_other (segment_of_page q) away)
      ]

same_hands : (parts : Parts) (spot : Spot) (one now : Plain) (at : ℕ) (t : IsTidy parts)
    → IsSpotPut parts spot one now at
    → ((page : ℕ) → page < 16 → class_of now.holding page ≡ class_of one.holding page)
    → state_of (with_segment parts spot now parts.hands)
    ≡ with_record (state_of parts) (one.holding.number * 8192 + at) (record_by (Some now) at)
same_hands parts spot one now at t put classes =
    let a = with_segment parts spot now parts.hands in
    let segments = length parts.policy.segments in
    let r = records_changed (change t put) segments (inside parts.hands t put.swap refl) in
    let c = maps (page_class a) (page_class parts) (range_with_len 0 (segments * 16))
    (class_same t put classes) in
    let h = maps (holder_of a) (holder_of parts) (range_with_len 0 segments) (holder_same t put) in
    let o = orphans_same parts spot one now put.swap.there put.swap.number in
    cc

pub spot_put : SpotPutIsRecord
spot_put parts spot one now at hands t put classes =
    ap (λ (s : State). record s { hands = hands }) (same_hands parts spot one now at t put classes)

-- the segment is the one of its number

module _ (parts : Parts) (spot : Spot) (one : Plain) (t : IsTidy parts)
    (there : segment_at parts spot ≡ Some one) where
  abbrev number : ℕ
  number = one.holding.number

  -- it comes in its own place
  swap : (h : Holder) × Swaps (h, one) (h, one) (segments_in parts)
      (segments_in (with_segment parts spot one parts.hands))
  swap = kept_swaps parts spot one one parts.hands there

  some : 1 ≤ count_by (is_numbered number) (segments_in parts)
  some = swaps_counts (is_numbered number) (swap.0, one) (swap.0, one) (segments_in parts)
      (segments_in (with_segment parts spot one parts.hands)) (nat_eq-same number) swap.1

  below : number < length parts.policy.segments
  below =
      let lt : nat_lt number (length parts.policy.segments) ≡ true =
      bit_true (nat_lt number (length parts.policy.segments))
      (omega (arith, some, t.segments.once number)) in
      grind (arith, nat_tests)

  once : count_by (is_numbered number) (segments_in parts) ≡ 1
  once = omega (
    arith,
    some,
    t.segments.once number,
    bit_small (nat_lt number (length parts.policy.segments)),
  )

  entry : found_in parts number ≡ Some (swap.0, one)
  entry = swaps_old (is_numbered number) (swap.0, one) (swap.0, one) (segments_in parts)
      (segments_in (with_segment parts spot one parts.hands)) (nat_eq-same number) once swap.1

  told : plain_of parts number ≡ Some one
  told = plain_is parts number ∙ ap plain_in entry

  one_right : IsSegmentRight parts.policy one
  one_right = right parts t.segments number (swap.0, one) entry

pub spot_found : SpotIsFound
spot_found parts spot one t there = (below parts spot one t there, told parts spot one t there)

pub spot_shows : SpotShowsItsWord
spot_shows parts spot one at t there low =
    let n = one.holding.number in
    let place = n * 8192 + at in
    let inside = below parts spot one t there in
    let own : segment_of place ≡ n = omega (arith, low) in
    let own_at : at ≡ place % 8192 = omega (arith, low) in
    record {
      within = omega (arith, inside, low);
      one = one;
      there = ap (plain_of parts) own ∙ told parts spot one t there;
      word = ap (λ k. slice_index_or one.slots k 0) own_at;
      fits =
          subst (λ k. IsWordOf (standing_at one.holding.standings k)
          (slice_index_or one.slots at 0))
          own_at ((one_right parts spot one t there).fits at low);
    }

-- the segment is the first of its number in its heap
pub spot_swap : SpotIsSwap
spot_swap parts worker found one now t there number = record {
  worker_below = elim (cases_lt worker (length parts.heaps)) [
    | inl lt ↦ lt
    | inr ge ↦ absurd (let none = get_or_past parts.heaps worker [] ge in let bad : None
        ≡ Some one = sym (ap (λ h. slice_get h found) none) ∙ there in cc)
  ];
  there = there;
  first =
      stands_first (is_of one.holding.number) (heap_at parts worker) found one there
      (eq-eqb one.holding.number one.holding.number refl)
      (heap_once parts t one.holding.number worker);
  number = number;
}

pub heap_put : HeapPutIsPut
heap_put parts worker found one now at t put classes =
    put_is_put parts worker found one now at (tidy_sorted parts t)
    (record {
      swap = spot_swap parts worker found one now t put.swap.there put.swap.number;
      below = put.below;
      others = put.others;
      classes = classes;
    })

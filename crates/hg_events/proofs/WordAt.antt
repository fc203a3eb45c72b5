-- The slot word of a place, wherever its segment stands, shows what the state records there.
use Rattle.std.proofs.Common.{◌≡◌, ℕ, ◌*◌, ◌%◌, ◌<◌, ◌++◌, true, false, nat_lt, List, length, find}
use Rattle.std.proofs.Common.{is_some, slice_get, slice_index_or, refl, sym, ap, ◌∙◌, arith, subst}
use Rattle.std.proofs.Common.{inl, inr, option_map}
use Rattle.std.specs.Prelude.{Option, Some, None, slice_index}
use Rattle.std.specs.List.{position_or_len}
use Rattle.std.proofs.lemmas.Bool.{cases_lt, true≢false}
use Rattle.std.proofs.lemmas.Bool.Decides.{nat_tests}
use Rattle.std.proofs.lemmas.List.{get_or_past, map-append}
use Rattle.std.proofs.lemmas.List.Folds.{find_at}
use Rattle.std.proofs.lemmas.Option.{none-some, same_Some}
use Rattle.hg_place.specs.declared.Place.{Place}
use Rattle.hg_place.specs.declared.Right.{Right}
use Rattle.hg_place.specs.Lives.{IsSlotWord}
use Rattle.hg_place.specs.Places.{number_of}
use Rattle.hg_place.specs.Plain.{plain_words}
use Rattle.hg_place.specs.Slots.{slot_in}
use Rattle.hg_place.specs.Standings.{slot_of, standing_at}
use Rattle.hg_segment.specs.Parted.{plain_number}
use Rattle.hg_pool.specs.Pooled.{segment_of as segment_of_pool}
use Rattle.hg_heap.specs.Held.{segment_in, is_held, is_of as is_number}
use Rattle.hg_heap.proofs.Founds.{at_is, get-map, passes}
use Rattle.hg_heap.proofs.Looking.{slot_below}
use Rattle.hg_heap.proofs.Options.{is_some_map}
use Rattle.hg_machine.specs.Denial.{denial, denial_on}
use Rattle.hg_machine.specs.Life.{never_used}
use Rattle.hg_machine.specs.Shown.{IsShownBy}
use Rattle.hg_machine.specs.SoundPolicy.{IsSoundPolicy}
use Rattle.hg_machine.specs.State.{record_at}
use Rattle.hg_machine.proofs.Listed.{bit_true}
use Rattle.hg_machine.proofs.ShownLemmas.{words_decide, shown_records_decide}
use Rattle.hg_agreement.specs.Holdings.{has}
use Rattle.hg_agreement.specs.Parts.{Plain, Parts, plain_from, is_of, heap_at, holdings, worker_of}
use Rattle.hg_agreement.specs.Parts.{plain_by, plain_of, record_by, state_of}
use Rattle.hg_agreement.specs.Views.{IsWordOf}
use Rattle.hg_agreement.proofs.Bridge.{heaps_agree, first_passes}
use Rattle.hg_agreement.proofs.Firsts.{some_counted, any_found}
use Rattle.hg_agreement.proofs.Sees.{segment_is}
use Rattle.hg_agreement.proofs.Told.{record_is}
use Rattle.hg_parts.specs.Rights.{segments_in, found_in, is_numbered, IsSegmentRight}
use Rattle.hg_parts.specs.Spots.{in_heap}
use Rattle.hg_parts.specs.Tidy.{IsTidy}
use Rattle.hg_parts.proofs.Flat.{E, plain_in, plain_is, has_is}
use Rattle.hg_parts.proofs.Records.{right, found, plain_found, record_past}
use Rattle.hg_parts.proofs.Sorted.{tidy_sorted}
use Rattle.hg_parts.proofs.Sound.{tidy_sound}
use Rattle.hg_parts.proofs.SpotPuts.{spot_found}
use Rattle.hg_events.specs.Core.{Core, parts_of, heap_of, nothing_held}
use Rattle.hg_events.specs.Elsewhere.{word_by, word_at, IsInNoHeap, HeapWordIsWordAt}
use Rattle.hg_events.specs.Elsewhere.{NowhereWordIsZero, UnheldIsPooled}
use Rattle.hg_events.proofs.PlainLists.{K}
use Rattle.hg_events.proofs.Told.{found_told, heap_told}

-- the segment of a number is one of the policy, and right

of_plain : (o : Option E) (one : Plain) → plain_in o ≡ Some one
    → (e : E) × (o ≡ Some e) × (e.1 ≡ one)
of_plain None one is = absurd (none-some one is)
of_plain (Some e) one is = (e, refl, same_Some e.1 one is)

module _ (parts : Parts) (n : ℕ) (one : Plain) (t : IsTidy parts)
    (there : plain_of parts n ≡ Some one) where
  entry : (e : E) × (found_in parts n ≡ Some e) × (e.1 ≡ one)
  entry = of_plain (found_in parts n) one (sym (plain_is parts n) ∙ there)

  pub one_inside : n < length parts.policy.segments
  one_inside =
      let some = some_counted (is_numbered n) (segments_in parts)
      (any_found (is_numbered n) (segments_in parts) entry.0 entry.1) in
      let lt : nat_lt n (length parts.policy.segments) ≡ true =
      bit_true (nat_lt n (length parts.policy.segments))
      (omega (arith, some, t.segments.once n)) in
      grind (arith, nat_tests)

  pub one_right : IsSegmentRight parts.policy one
  one_right =
      subst (IsSegmentRight parts.policy) entry.2 (right parts t.segments n entry.0 entry.1)

-- the word of a place shows its record

module _ (core : Core) (place : Place) (policy : IsSoundPolicy core.policy)
    (t : IsTidy (parts_of core)) where
  abbrev parts : Parts
  parts = parts_of core

  abbrev q : ℕ
  q = number_of place

  shown_one : (one : Plain) → plain_of parts place.segment ≡ Some one
      → IsShownBy (record_at (state_of parts) q) (slice_index_or one.slots (slot_of place) 0)
  shown_one one there =
      let at = slot_of place in
      let inside = one_inside parts place.segment one t there in
      let page = place.page_below in
      let index = place.index_below in
      let some_heap : 0 < length parts.heaps =
      omega (arith, policy.some_worker, t.segments.heaps) in
      (heaps_agree parts 0 0 (Some (record { place = q; word = slice_index_or one.slots at 0 }))
      (tidy_sound parts policy t).0 (tidy_sorted parts t) some_heap
      (record {
        within = omega (arith, inside, page, index);
        one = one;
        there = ap (plain_of parts) (segment_is place) ∙ there;
        word = ap (λ k. slice_index_or one.slots k 0) (sym (at_is place));
        fits =
            subst (λ k. IsWordOf (standing_at one.holding.standings k)
            (slice_index_or one.slots at 0)) (sym (at_is place))
            ((one_right parts place.segment one t there).fits at (slot_below place));
      })).word

  shown_none : plain_of parts place.segment ≡ None
      → IsShownBy (record_at (state_of parts) q) 0
  shown_none none =
      let unused : record_at (state_of parts) q ≡ never_used =
      elim (cases_lt q (length parts.policy.segments * 8192)) [
        | inl lt ↦ record_is parts q lt
            ∙ ap (λ (o : Option Plain). record_by o (q % 8192))
            (ap (plain_of parts) (segment_is place) ∙ none)
        | inr ge ↦ record_past parts t.segments q ge
      ] in
      subst (λ r. IsShownBy r 0) (sym unused)
      (record { generation = refl; live = refl; owner = λ e. absurd (true≢false e) })

  shown_by : (o : Option Plain) → plain_of parts place.segment ≡ o
      → IsShownBy (record_at (state_of parts) q) (word_by o (slot_of place))
  shown_by None e = shown_none e
  shown_by (Some one) e = shown_one one e

  pub word_shown : IsShownBy (record_at (state_of parts) q) (word_at core place)
  word_shown = shown_by (plain_of parts place.segment) refl

  -- and decides which rule denies the use of the place's block
  pub word_denies : (actor : ℕ) (right : Right) (expected : ℕ)
      → denial_on core.policy actor right place.segment expected (slot_in (word_at core place))
      ≡ denial (state_of parts) actor right place expected
  word_denies actor right expected =
      words_decide (state_of parts) actor right place expected (word_at core place)
      (shown_records_decide (record_at (state_of parts) q) (word_at core place) word_shown)

-- it is a slot word
pub word_is_slot : (core : Core) (place : Place) → IsTidy (parts_of core)
    → IsSlotWord (word_at core place)
word_is_slot core place t = by (plain_of (parts_of core) place.segment) refl
  where
    by : (o : Option Plain) → plain_of (parts_of core) place.segment ≡ o
        → IsSlotWord (word_by o (slot_of place))
    by None e = (omega arith, omega arith, λ _. refl)
    by (Some one) e =
        ((one_right (parts_of core) place.segment one t e).fits (slot_of place)
        (slot_below place)).0

-- a segment of a heap, by its number
pub heap_segment : (core : Core) (worker n : ℕ) (one : K) → IsTidy (parts_of core)
    → segment_in plain_number (heap_of core worker).segments n ≡ Some one
    → plain_of (parts_of core) n ≡ Some (plain_from one)
heap_segment core worker n one t held =
    let heap = (heap_of core worker).segments in
    let at = position_or_len (is_number plain_number n) heap in
    let there : slice_get (heap_at (parts_of core) worker) at ≡ Some (plain_from one) =
    ap (λ (h : List Plain). slice_get h at) (heap_told core worker)
    ∙ get-map plain_from heap at one (sym (find_at (is_number plain_number n) heap) ∙ held) in
    ap (plain_of (parts_of core)) (sym (passes plain_number heap n one held))
    ∙ (spot_found (parts_of core) (in_heap worker at) (plain_from one) t there).1

pub heap_word_is_word_at : HeapWordIsWordAt
heap_word_is_word_at core worker place word t stands =
    by (segment_in plain_number (heap_of core worker).segments place.segment) refl stands
  where
    by : (o : Option K)
        → segment_in plain_number (heap_of core worker).segments place.segment ≡ o
        → option_map (λ (k : K). slice_index (plain_words k.slots) (slot_of place)) o ≡ Some word
        → word_at core place ≡ word
    by None e is = absurd (none-some word is)
    by (Some one) e is =
        ap (λ (o : Option Plain). word_by o (slot_of place))
        (heap_segment core worker place.segment one t e)
        ∙ same_Some (slice_index (plain_words one.slots) (slot_of place)) word is

-- what a heap has, in the parts
pub had_held : (core : Core) (worker n : ℕ)
    → has (holdings (heap_at (parts_of core) worker)) n
    ≡ is_held plain_number (heap_of core worker).segments n
had_held core worker n =
    let heap = (heap_of core worker).segments in
    has_is n (heap_at (parts_of core) worker)
    ∙ ap (λ (xs : List Plain). is_some (find (is_of n) xs)) (heap_told core worker)
    ∙ ap is_some (found_told n heap)
    ∙ is_some_map plain_from (segment_in plain_number heap n)

-- where no heap has the segment

module _ (core : Core) (n : ℕ) (none : IsInNoHeap core n) where
  none_has : (worker : ℕ) → has (holdings (heap_at (parts_of core) worker)) n ≡ false
  none_has worker =
      had_held core worker n
      ∙ elim (cases_lt worker (length core.heaps)) [
        | inl lt ↦ none worker lt
        | inr ge ↦ ap (λ h. is_held plain_number h.segments n)
            (get_or_past core.heaps worker nothing_held ge)
      ]

  by_worker : (o : Option ℕ) → worker_of (parts_of core) n ≡ o → o ≡ None
  by_worker None e = refl
  by_worker (Some worker) e =
      absurd (true≢false
      (sym (first_passes (λ w. has (holdings (heap_at (parts_of core) w)) n) 0
      (length (parts_of core).heaps) worker e) ∙ none_has worker))

  pub unheld_plain : plain_of (parts_of core) n
      ≡ option_map plain_from (segment_of_pool plain_number core.pool n)
  unheld_plain =
      ap (plain_by (parts_of core) n) (by_worker (worker_of (parts_of core) n) refl)
      ∙ ap (find (is_of n)) (sym (map-append plain_from core.pool.orphans core.pool.fresh))
      ∙ found_told n (core.pool.orphans ++ core.pool.fresh)

pub nowhere_word_is_zero : NowhereWordIsZero
nowhere_word_is_zero core place none unpooled =
    ap (λ (o : Option Plain). word_by o (slot_of place)) (unheld_plain core place.segment none)
    ∙ by (segment_of_pool plain_number core.pool place.segment) refl
  where
    by : (o : Option K) → segment_of_pool plain_number core.pool place.segment ≡ o
        → word_by (option_map plain_from o) (slot_of place) ≡ 0
    by None e = refl
    by (Some one) e = absurd (unpooled (one, e))

pub unheld_is_pooled : UnheldIsPooled
unheld_is_pooled core n t inside none =
    let e = found (parts_of core) t.segments n inside in
    by (segment_of_pool plain_number core.pool n) e.0.1
    (sym (unheld_plain core n none) ∙ plain_found (parts_of core) t.segments n e.0 e.1)
  where
    by : (o : Option K) (s : Plain) → option_map plain_from o ≡ Some s
        → (one : K) × (o ≡ Some one)
    by None s e = absurd (none-some s e)
    by (Some one) s e = (one, refl)

-- The segments of a core's heaps, in its parts.
use Rattle.std.proofs.Common.{◌≡◌, ℕ, ◌==◌, ◌<◌, List, [], length, map, slice_get, refl, sym, ap}
use Rattle.std.proofs.Common.{◌∙◌, subst, arith, slice_index_or}
use Rattle.std.specs.Prelude.{Option, Some, None, IfSome}
use Rattle.std.specs.List.{position_or_len}
use Rattle.std.proofs.lemmas.List.{get_or-map, length-map}
use Rattle.std.proofs.lemmas.Option.{same_Some}
use Rattle.std.proofs.lemmas.Simd.{map-map}
use Rattle.hg_place.specs.declared.plain.PlainWords.{PlainWords}
use Rattle.hg_place.specs.Plain.{plain_records}
use Rattle.hg_segment.specs.Kept.{Kept}
use Rattle.hg_segment.specs.Parted.{plain_number}
use Rattle.hg_machine.specs.SoundPolicy.{IsSoundPolicy}
use Rattle.hg_heap.specs.Held.{Held}
use Rattle.hg_heap.specs.Ties.{holding, heap_view}
use Rattle.hg_heap.proofs.Founds.{get-map}
use Rattle.hg_agreement.specs.Agreement.{Agrees}
use Rattle.hg_agreement.specs.Holdings.{view_of}
use Rattle.hg_agreement.specs.Parts.{Plain, Parts, plain_from, plain_of, heap_at, holdings, state_of, IsWordIn}
use Rattle.hg_agreement.specs.Views.{Shown}
use Rattle.hg_agreement.proofs.Bridge.{heaps_agree}
use Rattle.hg_parts.specs.Rights.{IsSegmentRight}
use Rattle.hg_parts.specs.Tidy.{IsTidy}
use Rattle.hg_parts.specs.Spots.{in_heap}
use Rattle.hg_parts.proofs.Records.{found, right, plain_found}
use Rattle.hg_parts.proofs.Sorted.{tidy_sorted}
use Rattle.hg_parts.proofs.Sound.{tidy_sound}
use Rattle.hg_parts.proofs.SpotPuts.{spot_found, spot_swap}
use Rattle.hg_events.specs.Core.{Core, parts_of, heap_of, nothing_held}
use Rattle.hg_events.proofs.StandsAlone.{StandsAlone}

-- tidy parts are tidy with any queues
pub requeued_tidy : {parts : Parts} (queues : List (List (List ℕ))) → IsTidy parts
    → IsTidy (record parts { queues = queues })
requeued_tidy queues t = record {
  segments = record {
    heaps = t.segments.heaps;
    hands = t.segments.hands;
    remotes = t.segments.remotes;
    once = t.segments.once;
    each = t.segments.each;
  };
  remotes = t.remotes;
  out_once = t.out_once;
  rising = t.rising;
}

-- the heap of a worker in the parts of a core
pub heap_is : (core : Core) (worker : ℕ) → worker < length core.heaps
    → heap_at (parts_of core) worker ≡ map plain_from (heap_of core worker).segments
heap_is core worker below =
    get_or-map (λ held. map plain_from held.segments) core.heaps worker nothing_held [] below

-- the worker is the policy's, and the state agrees with its heap
module _ (core : Core) (worker : ℕ) (t : IsTidy (parts_of core))
    (below : worker < length core.heaps) where
  pub below_parts : worker < length (parts_of core).heaps
  below_parts =
      let many = length-map core.heaps (λ (held : Held PlainWords). map plain_from held.segments) in
      omega (arith, below, many)

  pub is_worker : worker < core.policy.workers
  is_worker = let b = below_parts in let all = t.segments.heaps in omega (arith, b, all)

  pub heap_agrees : IsSoundPolicy core.policy → (shown : Option Shown)
      → IfSome shown (IsWordIn (parts_of core)) → Agrees (state_of (parts_of core))
      (heap_view plain_number plain_records core.policy worker
      (slice_index_or core.hands worker None) 0 (heap_of core worker).segments) shown
  heap_agrees policy shown there =
      let parts = parts_of core in
      let kept : holdings (heap_at parts worker)
      ≡ map (holding plain_number plain_records) (heap_of core worker).segments =
      ap holdings (heap_is core worker below)
      ∙ map-map (λ (p : Plain). p.holding) plain_from (heap_of core worker).segments in
      subst (λ hs. Agrees (state_of parts) (view_of core.policy worker
      (slice_index_or core.hands worker None) 0 hs) shown) kept
      (heaps_agree parts worker 0 shown (tidy_sound parts policy t).0 (tidy_sorted parts t)
      below_parts there)

-- a segment of it, by its number and in its place
module _ (core : Core) (worker : ℕ) (t : IsTidy (parts_of core))
    (below : worker < length core.heaps) (at : ℕ) (one : Kept PlainWords)
    (there : slice_get (heap_of core worker).segments at ≡ Some one) where
  pub spot : slice_get (heap_at (parts_of core) worker) at ≡ Some (plain_from one)
  spot =
      ap (λ h. slice_get h at) (heap_is core worker below)
      ∙ get-map plain_from (heap_of core worker).segments at one there

  pub plain_is : plain_of (parts_of core) (plain_number one.slots) ≡ Some (plain_from one)
  plain_is = (spot_found (parts_of core) (in_heap worker at) (plain_from one) t spot).1

  pub inside : plain_number one.slots < length core.policy.segments
  inside = (spot_found (parts_of core) (in_heap worker at) (plain_from one) t spot).0

  pub one_right : IsSegmentRight core.policy (plain_from one)
  one_right =
      let n = plain_number one.slots in
      let some = found (parts_of core) t.segments n inside in
      subst (IsSegmentRight core.policy)
      (same_Some some.0.1 (plain_from one)
      (sym (plain_found (parts_of core) t.segments n some.0 some.1) ∙ plain_is))
      (right (parts_of core) t.segments n some.0 some.1)

  -- alone of its number
  pub alone : StandsAlone (heap_of core worker).segments at one
  alone = record {
    there = there;
    alone = λ other k e number.
        let parts = parts_of core in
        let other_spot : slice_get (heap_at parts worker) other ≡ Some (plain_from k) =
        ap (λ h. slice_get h other) (heap_is core worker below)
        ∙ get-map plain_from (heap_of core worker).segments other k e in
        (spot_swap parts worker other (plain_from k) (plain_from k) t other_spot refl).first
        ∙ ap (λ n. position_or_len (λ p. p.holding.number == n) (heap_at parts worker)) number
        ∙ sym (spot_swap parts worker at (plain_from one) (plain_from one) t spot refl).first;
  }

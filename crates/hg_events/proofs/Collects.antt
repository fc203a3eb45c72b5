-- A Collect of a core is a step of the machine, and leaves tidy parts tidy.
use Rattle.std.proofs.Common.{◌≡◌, ℕ, ◌<◌, ◌≤◌, ◌==◌, List, map, length, Option, Some, None, sym}
use Rattle.std.proofs.Common.{ap, subst, ◌∙◌, slice_get, slice_set, slice_index_or, count_by}
use Rattle.std.proofs.Common.{get_or}
use Rattle.std.specs.Prelude.{All}
use Rattle.std.proofs.lemmas.List.{map-set}
use Rattle.std.proofs.lemmas.Option.{slice_get-get_or}
use Rattle.std.proofs.lemmas.Simd.{map-map}
use Rattle.hg_place.specs.declared.plain.PlainWords.{PlainWords}
use Rattle.hg_place.specs.Plain.{plain_records}
use Rattle.hg_segment.specs.Kept.{Kept}
use Rattle.hg_segment.specs.Parted.{plain_number}
use Rattle.hg_machine.specs.Policy.{arena_of}
use Rattle.hg_machine.specs.SoundPolicy.{IsSoundPolicy}
use Rattle.hg_machine.specs.Soundness.{IsSound}
use Rattle.hg_machine.specs.Steps.{Step}
use Rattle.hg_heap.specs.Held.{Held}
use Rattle.hg_heap.specs.Idle.{bare}
use Rattle.hg_heap.proofs.CollectCall.{collect_ties}
use Rattle.hg_heap.proofs.Founds.{get-map, Contains-get}
use Rattle.hg_agreement.specs.Parts.{Plain, Parts, is_of, heap_at, plain_from, state_of, IsSorted}
use Rattle.hg_agreement.specs.Swept.{AreSwept, with_heap}
use Rattle.hg_agreement.proofs.CoreSteps.{swept_is_step}
use Rattle.hg_agreement.proofs.Openings.{count_numbers}
use Rattle.hg_parts.specs.Rights.{IsSegmentRight}
use Rattle.hg_parts.specs.Tidy.{IsTidy}
use Rattle.hg_parts.proofs.Links.{settled_right}
use Rattle.hg_parts.proofs.Sorted.{tidy_sorted, heap_once}
use Rattle.hg_parts.proofs.Sound.{tidy_sound}
use Rattle.hg_parts.proofs.Swept.{swept_tidy}
use Rattle.hg_events.specs.Core.{Core, parts_of, heap_of}
use Rattle.hg_events.specs.Collects.{IsCollected, CollectIsStep}
use Rattle.hg_events.proofs.CoreHeaps.{requeued_tidy, heap_is, below_parts, is_worker, heap_agrees, one_right}
use Rattle.hg_events.proofs.OwnLives.{heap_is_of_policy}
use Rattle.hg_events.proofs.SweptHeaps.{mapped, heap_swept}
use Rattle.hg_machine.specs.declared.Event.TheVariants as event
use Rattle.hg_machine.specs.declared.Answer.TheVariants as answer

abbrev plains : Held PlainWords → List Plain
plains held = map plain_from held.segments

module _ (core : Core) (worker : ℕ) (heap : Held PlainWords) (count : ℕ)
    (policy : IsSoundPolicy core.policy) (t : IsTidy (parts_of core))
    (below : worker < length core.heaps)
    (done : IsCollected (heap_of core worker) heap count) where
  abbrev parts : Parts
  parts = parts_of core

  abbrev old : List (Kept PlainWords)
  old = (heap_of core worker).segments

  abbrev now : Parts
  now = with_heap parts worker (plains heap)

  here : heap_at parts worker ≡ plains (heap_of core worker)
  here = heap_is core worker below

  -- each segment stands there once
  once : (n : ℕ) → count_by (λ m. m == n) (map (λ k. plain_number k.slots) old) ≤ 1
  once n =
      subst (λ c. c ≤ 1)
      (count_numbers n (plains (heap_of core worker))
      ∙ ap (count_by (λ m. m == n))
      (map-map (λ (one : Plain). one.holding.number) plain_from old))
      (subst (λ ps. count_by (is_of n) ps ≤ 1) here (heap_once parts t n worker))

  swept : AreSwept (heap_at parts worker) (plains heap)
  swept =
      subst (λ ps. AreSwept ps (plains heap)) (sym here)
      (heap_swept (heap_of core worker) heap done.collected once)

  low : worker < length parts.heaps
  low = below_parts core worker t below

  sound : IsSound (state_of parts)
  sound = (tidy_sound parts policy t).0

  sorted : IsSorted parts
  sorted = tidy_sorted parts t

  -- the answer is the machine's, and so is the state
  steps : Step (state_of parts) worker event.Collect (answer.Pages count) (state_of now)
  steps =
      let ties = collect_ties plain_number plain_records (λ s. s.segment_below) core.policy
      (heap_of core worker) heap (heap_is_of_policy core worker t below) done.collected count done.pages None in
      let hand : Option ℕ = slice_index_or core.hands worker None in
      let in_policy = is_worker core worker t below in
      let follows = ties worker hand 0 in_policy (state_of parts)
      (heap_agrees core worker t below policy None tt) in
      let cleared = swept_is_step parts worker 0 (plains heap) sound sorted in_policy low swept in
      (follows.step.0, cleared.1)

  -- each segment of the new heap is right
  right_now : (found : ℕ) (one : Plain) → slice_get (plains heap) found ≡ Some one
      → IsSegmentRight core.policy one
  right_now found one e =
      let y = mapped plain_from heap.segments found one e in
      let rest : slice_get (map bare old) found ≡ Some (bare y.0) =
      ap (λ (ks : List (Kept PlainWords)). slice_get ks found) (sym done.collected.rest)
      ∙ get-map bare heap.segments found y.0 y.1 in
      let x = mapped bare old found (bare y.0) rest in
      let was = one_right core worker t below found x.0 x.1 in
      let arena : arena_of core.policy y.0.slots.segment ≡ Some y.0.arena =
      subst (λ (k : Kept PlainWords). arena_of core.policy k.slots.segment ≡ Some k.arena) x.2
      was.arena in
      let greatest : y.0.greatest ≡ core.policy.max_generation =
      subst (λ (k : Kept PlainWords). k.greatest ≡ core.policy.max_generation) x.2
      was.greatest in
      subst (IsSegmentRight core.policy) y.2
      (settled_right core.policy y.0 arena greatest
      (done.settled y.0 (Contains-get heap.segments found y.0 y.1)))

  all_right : All (IsSegmentRight core.policy) (plains heap)
  all_right = λ k d lt. right_now k (get_or (plains heap) k d)
      (slice_get-get_or (plains heap) k d lt)

  tidy : IsTidy now
  tidy = swept_tidy parts worker (plains heap) t low swept all_right

  abbrev queues : List (List (List ℕ))
  queues = map (λ held. held.queues) (slice_set core.heaps worker heap)

  abbrev Serves : List (List Plain) → Type 0
  Serves heaps =
      Step (state_of parts) worker event.Collect (answer.Pages count)
      (state_of (record parts { heaps = heaps; queues = queues }))
      × IsTidy (record parts { heaps = heaps; queues = queues })

  serves : Serves (map plains (slice_set core.heaps worker heap))
  serves =
      subst Serves (sym (map-set plains core.heaps worker heap))
      (steps, requeued_tidy queues tidy)

pub collect_is_step : CollectIsStep
collect_is_step core worker heap count policy t below done =
    serves core worker heap count policy t below done

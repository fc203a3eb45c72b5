-- A Refill of a core is a step of the machine, and leaves the core tidy.
use Rattle.std.proofs.Common.{◌≡◌, ℕ, ◌<◌, List, [], ◌∷◌, ◌++◌, length, map, find, slice_set, sym}
use Rattle.std.proofs.Common.{ap, ◌∙◌, arith, subst}
use Rattle.std.specs.Option.{option_map}
use Rattle.std.proofs.lemmas.List.{map-append, map-set, length-map}
use Rattle.hg_lists.specs.Repeats.{HasNoRepeats}
use Rattle.hg_place.specs.declared.plain.PlainWords.{PlainWords}
use Rattle.hg_segment.specs.Parted.{plain_number}
use Rattle.hg_pool.specs.Pooled.{Pooled, without_number, without_segment}
use Rattle.hg_heap.specs.Held.{Held}
use Rattle.hg_machine.specs.Steps.{Step}
use Rattle.hg_agreement.specs.CoreSteps.{IsRefilled}
use Rattle.hg_agreement.specs.Parts.{Plain, Parts, is_of, heap_at, plain_from, state_of}
use Rattle.hg_agreement.specs.Pool.{without, with_adopted}
use Rattle.hg_agreement.proofs.CoreSteps.{refill_is_step, refilled_is_taken_up}
use Rattle.hg_agreement.proofs.CoreSteps.{no_refill_is_step as none_is_step}
use Rattle.hg_agreement.proofs.HeapMoves.{pushed_has_come}
use Rattle.hg_parts.specs.Rights.{remote_from}
use Rattle.hg_parts.specs.Tidy.{IsTidy}
use Rattle.hg_parts.proofs.Moved.{taken_up_tidy}
use Rattle.hg_parts.proofs.Sorted.{tidy_pooled}
use Rattle.hg_events.specs.Core.{Core, parts_of, heap_of}
use Rattle.hg_events.specs.Refill.{with_refill, IsRefill, RefillIsServed, NoRefillIsRefused}
use Rattle.hg_events.proofs.PlainLists.{K, without_plain, numbers_plain}
use Rattle.hg_events.proofs.NextPlain.{next_plain}
use Rattle.hg_events.proofs.NextUnheld.{next_unheld}
use Rattle.hg_events.proofs.CoreHeaps.{requeued_tidy}
use Rattle.hg_events.proofs.Told.{heap_told}
use Rattle.hg_machine.specs.declared.Event.TheVariants as event
use Rattle.hg_machine.specs.declared.Answer.TheVariants as answer

-- tidy parts have any queues
abbrev with_queues : Parts → List (List (List ℕ)) → Parts
with_queues parts queues = record parts { queues = queues }

abbrev queues_of : List (Held PlainWords) → List (List (List ℕ))
queues_of heaps = map (λ held. held.queues) heaps

-- the parts after a Refill, but for the queues
parts_after : (core : Core) (worker n : ℕ) (held : Held PlainWords) (pool : Pooled PlainWords)
    → pool ≡ without_segment plain_number core.pool n
    → parts_of (with_refill core worker held pool)
    ≡ with_queues (with_adopted (parts_of core) worker (map plain_from held.segments) n)
    (queues_of (slice_set core.heaps worker held))
parts_after core worker n held pool left =
    let build : List (List Plain) → List Plain → List Plain → Parts = λ heaps orphans unused.
    record {
      policy = core.policy;
      heaps = heaps;
      remotes = map remote_from core.remotes;
      orphans = orphans;
      fresh = unused;
      hands = core.hands;
      queues = queues_of (slice_set core.heaps worker held);
    } in
    let plains : Held PlainWords → List Plain = λ h. map plain_from h.segments in
    let heaps : List (List Plain) = slice_set (map plains core.heaps) worker (plains held) in
    ap (λ hs. build hs (map plain_from pool.orphans) (map plain_from pool.fresh))
    (map-set plains core.heaps worker held)
    ∙ ap (λ (p : Pooled PlainWords). build heaps (map plain_from p.orphans)
    (map plain_from p.fresh)) left
    ∙ ap (λ os. build heaps os (map plain_from (without_number plain_number n core.pool.fresh)))
    (without_plain n core.pool.orphans)
    ∙ ap (λ fs. build heaps (without n (map plain_from core.pool.orphans)) fs)
    (without_plain n core.pool.fresh)

module _ (core : Core) (worker arena : ℕ) (one : K) (held : Held PlainWords)
    (pool : Pooled PlainWords) (t : IsTidy (parts_of core)) (below : worker < length core.heaps)
    (is : IsRefill core worker arena one held pool) where
  pushed : map plain_from held.segments
      ≡ heap_at (parts_of core) worker ++ plain_from one ∷ []
  pushed =
      ap (map plain_from) is.came
      ∙ map-append plain_from (heap_of core worker).segments (one ∷ [])
      ∙ ap (λ xs. xs ++ plain_from one ∷ []) (sym (heap_told core worker))

  pub refilled : IsRefilled (parts_of core) worker arena (map plain_from held.segments)
      (plain_from one)
  refilled =
      let come = pushed_has_come (heap_at (parts_of core) worker) (plain_from one)
      (next_unheld core worker arena one t is.next) in
      record {
        worker_below = omega (
          arith,
          below,
          length-map core.heaps (λ (h : Held PlainWords). map plain_from h.segments),
        );
        next = next_plain core arena t ∙ ap (option_map plain_from) is.next;
        came = ap (find (is_of one.slots.segment)) pushed ∙ come.0;
        others = λ segment ne. ap (find (is_of segment)) pushed ∙ come.1 segment ne;
      }

  pub after_is : parts_of (with_refill core worker held pool)
      ≡ with_queues (with_adopted (parts_of core) worker (map plain_from held.segments)
      one.slots.segment) (queues_of (slice_set core.heaps worker held))
  after_is = parts_after core worker one.slots.segment held pool is.left

  is_step : Step (state_of (parts_of core)) worker (event.Refill arena)
      (answer.Refilled one.slots.segment)
      (state_of (parts_of (with_refill core worker held pool)))
  is_step =
      subst (λ (p : Parts). Step (state_of (parts_of core)) worker (event.Refill arena)
      (answer.Refilled one.slots.segment) (state_of p)) (sym after_is)
      (refill_is_step (parts_of core) worker arena (map plain_from held.segments) (plain_from one)
      (tidy_pooled (parts_of core) t) refilled)

  is_tidy : IsTidy (parts_of (with_refill core worker held pool))
  is_tidy =
      let heap : List Plain = map plain_from held.segments in
      subst (λ (p : Parts). IsTidy p) (sym after_is)
      (requeued_tidy (queues_of (slice_set core.heaps worker held))
      (taken_up_tidy (parts_of core) worker heap (plain_from one) t
      (refilled_is_taken_up (parts_of core) worker arena heap (plain_from one) refilled)
      (subst (λ (ns : List ℕ). HasNoRepeats ns) (sym (numbers_plain held.segments)) is.once)))

pub refill_is_served : RefillIsServed
refill_is_served core worker arena one held pool t below is = (
  is_step core worker arena one held pool t below is,
  is_tidy core worker arena one held pool t below is,
)

pub no_refill_is_refused : NoRefillIsRefused
no_refill_is_refused core worker arena t none =
    none_is_step (parts_of core) worker arena (tidy_pooled (parts_of core) t)
    (next_plain core arena t ∙ ap (option_map plain_from) none)

-- A segment leaves a worker's heap, and is the last orphan.
use Rattle.std.proofs.Common.{◌≡◌, ℕ, ◌<◌, false, not, ◌∷◌, [], ◌++◌, List, map, length, find}
use Rattle.std.proofs.Common.{is_some, nat_lt, Some, None, refl, sym, ap, ◌∙◌, arith, subst}
use Rattle.std.specs.Option.{option_map}
use Rattle.std.specs.List.{position_or_len}
use Rattle.std.proofs.lemmas.Bool.{false_from_ne_true}
use Rattle.std.proofs.lemmas.List.{length-map, map-append, map-set}
use Rattle.std.proofs.lemmas.List.Folds.{find_at}
use Rattle.std.proofs.lemmas.Option.{none-some}
use Rattle.hg_lists.specs.Repeats.{HasNoRepeats}
use Rattle.hg_place.specs.declared.plain.PlainWords.{PlainWords}
use Rattle.hg_segment.specs.Kept.{Kept}
use Rattle.hg_segment.specs.Parted.{plain_number}
use Rattle.hg_heap.specs.Held.{segment_in, is_of as is_number}
use Rattle.hg_heap.specs.Releasing.{without_by, without_segment}
use Rattle.hg_heap.proofs.Options.{none_is}
use Rattle.hg_heap.proofs.Founds.{Found, passes, numbers as numbers_in}
use Rattle.hg_heap.proofs.Gone.{rest, once_rest, gone, others}
use Rattle.hg_machine.specs.First.{first_of}
use Rattle.hg_machine.specs.Refusal.{refusal}
use Rattle.hg_machine.specs.Steps.{Step}
use Rattle.hg_machine.proofs.Answered.{of_some}
use Rattle.hg_agreement.specs.Holdings.{has}
use Rattle.hg_agreement.specs.LeftPut.{numbers}
use Rattle.hg_agreement.specs.Moves.{with_orphan, IsLetGo}
use Rattle.hg_agreement.specs.Parts.{Parts, plain_from, is_of, heap_at, holdings, state_of}
use Rattle.hg_agreement.proofs.Bridge.{holds_had}
use Rattle.hg_agreement.proofs.CoreSteps.{let_go_is_step}
use Rattle.hg_agreement.proofs.Firsts.{some_counted, any_found}
use Rattle.hg_parts.specs.Tidy.{IsTidy}
use Rattle.hg_parts.proofs.Flat.{has_is, any_is}
use Rattle.hg_parts.proofs.Moved.{let_go_tidy}
use Rattle.hg_parts.proofs.Sorted.{tidy_sorted, counted_apart, some_in}
use Rattle.hg_parts.proofs.Times.{bit_small}
use Rattle.hg_events.specs.Core.{Core, parts_of, heap_of}
use Rattle.hg_events.specs.LetGo.{without, let_go, IsHeldBy, HeldIsUnpooled, AbandonIsServed}
use Rattle.hg_events.specs.LetGo.{AbandonIsRefused}
use Rattle.hg_events.proofs.Told.{found_told, heap_told, numbers_told, held_once}
use Rattle.hg_events.proofs.CoreHeaps.{requeued_tidy}
use Rattle.hg_machine.specs.declared.Event.TheVariants as event
use Rattle.hg_machine.specs.declared.Answer.TheVariants as answer

module _ (core : Core) (worker segment : ℕ) (one : Kept PlainWords) (t : IsTidy (parts_of core))
    (held : IsHeldBy core worker segment one) where
  abbrev parts : Parts
  parts = parts_of core

  abbrev heap : List (Kept PlainWords)
  heap = (heap_of core worker).segments

  abbrev n : ℕ
  n = plain_number one.slots

  abbrev found : ℕ
  found = position_or_len (is_number plain_number segment) heap

  own : n ≡ segment
  own = passes plain_number heap segment one held

  here : Found plain_number heap segment found one
  here = record { at = sym (find_at (is_number plain_number segment) heap) ∙ held; first = refl }

  once : HasNoRepeats (numbers_in plain_number heap)
  once = held_once core t worker

  -- it stands in the heap, and not in the pool
  there : find (is_of n) (heap_at parts worker) ≡ Some (plain_from one)
  there = ap (find (is_of n)) (heap_told core worker) ∙ found_told n heap
      ∙ ap (option_map plain_from) (ap (segment_in plain_number heap) own ∙ held)

  pub unpooled : find (is_of n) (parts.orphans ++ parts.fresh) ≡ None
  unpooled = none_is (find (is_of n) (parts.orphans ++ parts.fresh))
      (sym (any_is n (parts.orphans ++ parts.fresh)) ∙ false_from_ne_true _ (λ some. omega (
        arith,
        some_counted (is_of n) (parts.orphans ++ parts.fresh) some,
        some_counted (is_of n) (heap_at parts worker)
            (any_found (is_of n) (heap_at parts worker) (plain_from one) there),
        some_in n 0 parts.heaps worker,
        counted_apart parts n,
        t.segments.once n,
        bit_small (nat_lt n (length parts.policy.segments)),
      )))

  -- what is left of the heap
  abbrev left : List (Kept PlainWords)
  left = without_segment plain_number heap segment

  left_is : left ≡ rest plain_number heap segment found one here once
  left_is = ap (without_by plain_number heap segment) held

  left_gone : segment_in plain_number left n ≡ None
  left_gone = ap (segment_in plain_number left) own
      ∙ ap (λ xs. segment_in plain_number xs segment) left_is
      ∙ gone plain_number heap segment found one here once

  left_others : (other : ℕ) → (other ≡ n → ⊥)
      → segment_in plain_number left other ≡ segment_in plain_number heap other
  left_others other ne = ap (λ xs. segment_in plain_number xs other) left_is
      ∙ others plain_number heap segment found one here once other (λ e. ne (e ∙ sym own))

  left_once : HasNoRepeats (numbers (map plain_from left))
  left_once = subst HasNoRepeats (sym (numbers_told left))
      (subst (λ xs. HasNoRepeats (numbers_in plain_number xs)) (sym left_is)
      (once_rest plain_number heap segment found one here once))

  pub go : worker < length core.heaps → IsLetGo parts worker (map plain_from left) (plain_from one)
  go below = record {
    worker_below = omega (
      arith,
      below,
      length-map core.heaps (λ held. map plain_from held.segments),
    );
    there = there;
    unpooled = unpooled;
    gone = found_told n left ∙ ap (option_map plain_from) left_gone;
    others = λ other ne.
        found_told other left
        ∙ ap (option_map plain_from) (left_others other ne)
        ∙ sym (found_told other heap)
        ∙ sym (ap (find (is_of other)) (heap_told core worker));
  }

  -- the parts of the core afterwards
  abbrev new : Parts
  new = parts_of (let_go core worker segment one)

  abbrev gone_from : Parts
  gone_from = with_orphan parts worker (map plain_from left) (plain_from one)

  pub new_is : new ≡ record gone_from { queues = new.queues }
  new_is =
      ap (λ hs. record new { heaps = hs })
      (map-set (λ held. map plain_from held.segments) core.heaps worker
      (without (heap_of core worker) segment))
      ∙ ap (λ os. record gone_from { orphans = os; queues = new.queues })
      (map-append plain_from core.pool.orphans (one ∷ []))

  step : worker < length core.heaps
      → Step (state_of parts) worker (event.Abandon segment) answer.Done (state_of gone_from)
  step below =
      subst (λ k. Step (state_of parts) worker (event.Abandon k) answer.Done (state_of gone_from))
      own
      (let_go_is_step parts worker (map plain_from left) (plain_from one) (tidy_sorted parts t)
      (go below))

  served : worker < length core.heaps
      → Step (state_of parts) worker (event.Abandon segment) answer.Done (state_of new) × IsTidy new
  served below = (
    subst (λ p. Step (state_of parts) worker (event.Abandon segment) answer.Done (state_of p))
        (sym new_is) (step below),
    subst IsTidy (sym new_is)
        (requeued_tidy new.queues
        (let_go_tidy parts worker (map plain_from left) (plain_from one) t (go below) left_once)),
  )

pub abandon_is_served : AbandonIsServed
abandon_is_served core worker segment one t below held =
    served core worker segment one t held below

pub held_is_unpooled : HeldIsUnpooled
held_is_unpooled core worker segment one t held pooled =
    none-some (plain_from pooled.0)
    (sym (unpooled core worker segment one t held)
    ∙ ap (find (is_of (plain_number one.slots)))
    (sym (map-append plain_from core.pool.orphans core.pool.fresh))
    ∙ found_told (plain_number one.slots) (core.pool.orphans ++ core.pool.fresh)
    ∙ ap (option_map plain_from) pooled.1)

pub abandon_is_refused : AbandonIsRefused
abandon_is_refused core worker segment t below none =
    let s = state_of (parts_of core) in
    let heap = (heap_of core worker).segments in
    let unheld : has (holdings (heap_at (parts_of core) worker)) segment ≡ false =
    has_is segment (heap_at (parts_of core) worker)
    ∙ ap (λ xs. is_some (find (is_of segment) xs)) (heap_told core worker)
    ∙ ap is_some (found_told segment heap ∙ ap (option_map plain_from) none) in
    of_some (refusal s worker (event.Abandon segment)) _
    (λ refused. (answer.NotHeld ≡ refused) × (s ≡ s))
    answer.NotHeld
    (ap (λ b. first_of ((not b, answer.NotHeld) ∷ []))
    (holds_had (parts_of core) worker (tidy_sorted (parts_of core) t)
    (omega (arith, below, length-map core.heaps (λ held. map plain_from held.segments))) segment
    ∙ unheld))
    (refl, refl)

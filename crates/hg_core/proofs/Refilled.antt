-- A worker takes the next segment of an arena.
use Rattle.std.proofs.Common.{◌≡◌, ℕ, ◌<◌, [], ◌∷◌, ◌++◌, false, length, map, Some, None}
use Rattle.std.proofs.Common.{slice_index_or, slice_set, refl, sym, ap, subst, ◌∙◌, arith}
use Rattle.std.specs.Box.{boxed_slice_items, boxed_slice_with_item}
use Rattle.std.proofs.lemmas.List.{length-set}
use Rattle.hg_lists.specs.Repeats.{HasNoRepeats}
use Rattle.hg_place.specs.declared.plain.PlainWords.{PlainWords}
use Rattle.hg_queue.specs.declared.page_queues.TheConstants.{ARENAS}
use Rattle.hg_segment.specs.Kept.{Kept}
use Rattle.hg_segment.specs.Parted.{plain_number}
use Rattle.hg_pool.specs.Pooled.{Pooled, next_in, without_segment}
use Rattle.hg_heap.specs.Held.{Held, is_held}
use Rattle.hg_machine.specs.State.{State, held}
use Rattle.hg_machine.proofs.Answered.{state_is_determined}
use Rattle.hg_parts.proofs.Sound.{tidy_sound}
use Rattle.hg_events.specs.Core.{Core, parts_of, heap_of}
use Rattle.hg_events.specs.Refill.{with_refill, IsRefill}
use Rattle.hg_events.proofs.NextUnheld.{next_may_be_adopted, next_inside}
use Rattle.hg_events.proofs.Refilled.{refill_is_served, no_refill_is_refused}
use Rattle.hg_chosen.specs.Refilled.{AreEntered}
use Rattle.hg_chosen.proofs.Entering.{refill_is_chosen}
use Rattle.hg_core.specs.declared.stores.Stores.TheInside.{Inside}
use Rattle.hg_core.specs.Keeping.{state_in}
use Rattle.hg_core.specs.Stored.{core_of, IsStored}
use Rattle.hg_core.proofs.After.{IsAfter, after_moved, after_refused, heap_read, heap_below}
use Rattle.hg_core.proofs.HoldersKept.{holders_adopted}
use Rattle.hg_machine.specs.declared.Event.TheVariants as event
use Rattle.hg_machine.specs.declared.Answer.TheVariants as answer

-- none where the pool has none of it
pub nothing_refilled : (a : Inside) (s : Core) (worker arena : ℕ) (pool : Pooled PlainWords)
    → core_of a ≡ s → IsStored a → pool ≡ a.pool → next_in a.pool arena ≡ None
    → IsAfter s (record a { pool = pool }) worker (event.Refill arena) answer.NoSegment
nothing_refilled a s worker arena pool view stored unchanged none =
    after_refused a (record a { pool = pool }) s worker (event.Refill arena) answer.NoSegment view
    stored (ap (λ p. record (core_of a) { pool = p }) unchanged) refl refl
    (no_refill_is_refused (core_of a) worker arena stored.kept.tidy none)

module _ (a : Inside) (s : Core) (at worker arena : ℕ) (old : Held PlainWords)
    (one : Kept PlainWords) (view : core_of a ≡ s) (stored : IsStored a)
    (below : worker < s.policy.workers) (same : at ≡ worker)
    (there : old ≡ slice_index_or (boxed_slice_items a.heaps) at old)
    (next : next_in a.pool arena ≡ Some one) where
  abbrev core : Core
  core = core_of a

  low : worker < length core.heaps
  low = heap_below core worker stored.kept.tidy
      (subst (λ x. worker < x.policy.workers) (sym view) below)

  old_is : heap_of core worker ≡ old
  old_is = heap_read core at worker old stored.kept.tidy
      (subst (λ x. worker < x.policy.workers) (sym view) below) same there

  -- its heap may adopt it
  pub adoptable : (is_held plain_number old.segments (plain_number one.slots) ≡ false)
      × (one.arena < ARENAS)
  adoptable =
      let may = next_may_be_adopted core worker arena one stored.kept.policy stored.kept.tidy low
      next in (
        ap (λ h. is_held plain_number h.segments (plain_number one.slots)) (sym old_is) ∙ may.0,
        may.1,
      )

  pub after_refill : (n : ℕ) (new : Held PlainWords) (pool : Pooled PlainWords)
      → n ≡ plain_number one.slots
      → pool ≡ without_segment plain_number core.pool (plain_number one.slots)
      → new.segments ≡ old.segments ++ one ∷ []
      → HasNoRepeats (map (λ k. plain_number k.slots) new.segments) → AreEntered one old new
      → IsAfter s
      (record a {
        heaps = boxed_slice_with_item a.heaps at new;
        pool = pool;
        holders = slice_set a.holders n (Some worker);
      }) worker (event.Refill arena) (answer.Refilled (plain_number one.slots))
  after_refill n new pool number left came once entered =
      let m = plain_number one.slots in
      let after : Core = with_refill core worker new pool in
      let is : IsRefill core worker arena one new pool = record {
        next = next;
        left = left;
        came = came ∙ ap (λ h. h.segments ++ one ∷ []) (sym old_is);
        once = once;
      } in
      let served = refill_is_served core worker arena one new pool stored.kept.tidy low is in
      let inside : n < length core.policy.segments =
      omega (arith, next_inside core worker arena one stored.kept.tidy next, number) in
      let sound = (tidy_sound (parts_of core) stored.kept.policy stored.kept.tidy).0 in
      let b : Inside = record a {
        heaps = boxed_slice_with_item a.heaps at new;
        pool = pool;
        holders = slice_set a.holders n (Some worker);
      } in
      after_moved a b s after worker (event.Refill arena) (answer.Refilled m) view stored
      (ap (λ k. record core { heaps = slice_set core.heaps k new; pool = pool }) same)
      served (length-set a.holders n (Some worker))
      (holders_adopted a.holders (state_in core) (state_in after) worker n
      (ap (λ (x : State). x.holders)
      (state_is_determined (state_in core) worker (event.Refill arena) (answer.Refilled m)
      (state_in after) served.0)
      ∙ ap (λ k. slice_set (state_in core).holders k (held worker)) (sym number))
      (omega (arith, inside, stored.all, stored.kept.policy.few_segments))
      (omega (arith, inside, sound.whole.holders))
      stored.holders)
      (refill_is_chosen core worker arena one new pool stored.kept.tidy low is
      (subst (λ h. AreEntered one h new) (sym old_is) entered))

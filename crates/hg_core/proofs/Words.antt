-- The slot word of a place, by the table of who holds what.
use Rattle.std.proofs.Common.{◌≡◌, ℕ, ◌<◌, true, false, Some, None, slice_index, slice_index_or}
use Rattle.std.proofs.Common.{refl, sym, ap, subst, ◌∙◌, length}
use Rattle.std.specs.Box.{boxed_slice_items}
use Rattle.std.proofs.lemmas.Bool.{eq-eqb}
use Rattle.std.proofs.lemmas.Option.{same_Some, none-some}
use Rattle.hg_place.specs.declared.Place.{Place}
use Rattle.hg_place.specs.declared.plain.PlainWords.{PlainWords}
use Rattle.hg_place.specs.Plain.{plain_words}
use Rattle.hg_place.specs.Standings.{slot_of}
use Rattle.hg_segment.specs.Parted.{plain_number}
use Rattle.hg_heap.specs.Held.{Held, is_held}
use Rattle.hg_heap.specs.Parting.{word_in}
use Rattle.hg_pool.specs.Pooled.{IsPooled, IsOf}
use Rattle.hg_machine.specs.Holders.{is_held_by}
use Rattle.hg_machine.specs.State.{Holder, fresh, orphan, held, holder_at}
use Rattle.hg_parts.proofs.Sound.{tidy_sound}
use Rattle.hg_events.specs.Core.{Core, parts_of, heap_of}
use Rattle.hg_events.specs.Elsewhere.{IsInNoHeap, word_at}
use Rattle.hg_events.proofs.Elsewhere.{holds_is_held}
use Rattle.hg_events.proofs.PoolSpots.{pool_word_is_word_at}
use Rattle.hg_events.proofs.WordAt.{heap_word_is_word_at, nowhere_word_is_zero}
use Rattle.hg_core.specs.declared.stores.Stores.TheInside.{Inside}
use Rattle.hg_core.specs.Keeping.{state_in, IsKept}
use Rattle.hg_core.specs.Held.{worker_in}
use Rattle.hg_core.specs.Stored.{core_of, IsStored}
use Rattle.hg_core.proofs.After.{heap_read, heap_below}

-- who holds it, by its holder
held_is : (h : Holder) (w : ℕ) → worker_in h ≡ Some w → h ≡ held w
held_is fresh w is = absurd (none-some w is)
held_is orphan w is = absurd (none-some w is)
held_is (held v) w is = ap held (same_Some v w is)

holds_it : (w : ℕ) → is_held_by w (held w) ≡ true
holds_it w = eq-eqb w w refl

none_holds : (h : Holder) (w : ℕ) → worker_in h ≡ None → is_held_by w h ≡ false
none_holds fresh w is = refl
none_holds orphan w is = refl
none_holds (held v) w is = absurd (none-some v (sym is))

-- the worker that the table names holds the segment
module _ (s : Core) (kept : IsKept s) (w n : ℕ)
    (is : worker_in (holder_at (state_in s) n) ≡ Some w) where
  pub holder_below : w < s.policy.workers
  holder_below =
      (tidy_sound (parts_of s) kept.policy kept.tidy).0.workers n w
      (held_is (holder_at (state_in s) n) w is)

  pub holder_holds : is_held plain_number (heap_of s w).segments n ≡ true
  holder_holds =
      sym (holds_is_held s w n kept.tidy (heap_below s w kept.tidy holder_below))
      ∙ ap (is_held_by w) (held_is (holder_at (state_in s) n) w is) ∙ holds_it w

-- where it names none, no heap has it
pub no_holder : (s : Core) → IsKept s → (n : ℕ) → worker_in (holder_at (state_in s) n) ≡ None
    → IsInNoHeap s n
no_holder s kept n is w below =
    sym (holds_is_held s w n kept.tidy below)
    ∙ none_holds (holder_at (state_in s) n) w is

-- so the word is read in the holder's heap, else in the pool
module _ (a : Inside) (s : Core) (place : Place) (view : core_of a ≡ s) (stored : IsStored a) where
  kept : IsKept s
  kept = subst IsKept view stored.kept

  module _ (holder at : ℕ) (heap : Held PlainWords)
      (is : worker_in (holder_at (state_in s) place.segment) ≡ Some holder) (same : at ≡ holder)
      (there : heap ≡ slice_index_or (boxed_slice_items a.heaps) at heap) where
    pub heap_is : heap_of s holder ≡ heap
    heap_is =
        ap (λ x. heap_of x holder) (sym view)
        ∙ heap_read (core_of a) at holder heap stored.kept.tidy
        (subst (λ x. holder < x.policy.workers) (sym view)
        (holder_below s kept holder place.segment is)) same there

    pub has_word : is_held plain_number heap.segments place.segment ≡ true
    has_word =
        ap (λ h. is_held plain_number h.segments place.segment) (sym heap_is)
        ∙ holder_holds s kept holder place.segment is

    pub heap_word : (word : ℕ) → word_in heap.segments place ≡ Some word
        → word ≡ word_at s place
    heap_word word told =
        sym (heap_word_is_word_at s holder place word kept.tidy
        (ap (λ h. word_in h.segments place) heap_is ∙ told))

  pub holder_inside : (holder : ℕ) → worker_in (holder_at (state_in s) place.segment) ≡ Some holder
      → holder < length (boxed_slice_items a.heaps)
  holder_inside holder is =
      heap_below (core_of a) holder stored.kept.tidy
      (subst (λ x. holder < x.policy.workers) (sym view)
      (holder_below s kept holder place.segment is))

  pub pool_word : (word : ℕ)
      → IsOf plain_number a.pool place.segment
      (λ one. word ≡ slice_index (plain_words one.slots) (slot_of place))
      → word ≡ word_at s place
  pool_word word told =
      sym (pool_word_is_word_at (core_of a) place word stored.kept.tidy told)
      ∙ ap (λ x. word_at x place) view

  pub no_word : worker_in (holder_at (state_in s) place.segment) ≡ None
      → ¬ IsPooled plain_number a.pool place.segment
      → 0 ≡ word_at s place
  no_word is none =
      sym (nowhere_word_is_zero (core_of a) place
      (no_holder (core_of a) stored.kept place.segment
      (ap (λ x. worker_in (holder_at (state_in x) place.segment)) view ∙ is)) none)
      ∙ ap (λ x. word_at x place) view

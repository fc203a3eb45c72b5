-- A call on a worker's own heap: what all of them share.
use Rattle.std.proofs.Common.{length, ◌≡◌, ℕ, ◌<◌, true, Contains, slice_index_or, refl, sym, ap, subst}
use Rattle.std.proofs.Common.{◌∙◌}
use Rattle.std.specs.Box.{boxed_slice_items, boxed_slice_with_item}
use Rattle.hg_place.specs.declared.Place.{Place}
use Rattle.hg_place.specs.declared.plain.PlainWords.{PlainWords}
use Rattle.hg_place.specs.Plain.{plain_records}
use Rattle.hg_segment.specs.Kept.{Kept}
use Rattle.hg_segment.specs.Parted.{plain_number}
use Rattle.hg_heap.specs.Held.{Held, is_held}
use Rattle.hg_heap.specs.Policies.{AreOf}
use Rattle.hg_heap.specs.Settled.{IsSettled}
use Rattle.hg_heap.specs.Ties.{Stepped, HeapTies, shown_at}
use Rattle.hg_machine.specs.declared.Event.{Event}
use Rattle.hg_machine.specs.declared.Answer.{Answer}
use Rattle.hg_machine.specs.Holders.{holds}
use Rattle.hg_events.specs.Core.{Core, heap_of}
use Rattle.hg_events.specs.Own.{with_heap, IsOwnCall, IsServedBy}
use Rattle.hg_events.specs.Take.{plain_shows, plain_steps}
use Rattle.hg_events.proofs.Elsewhere.{holds_is_held}
use Rattle.hg_events.proofs.OwnLives.{heap_is_of_policy}
use Rattle.hg_chosen.specs.Chosen.{IsChosenBy}
use Rattle.hg_chosen.specs.Same.{IsSame}
use Rattle.hg_core.specs.declared.stores.Stores.TheInside.{Inside}
use Rattle.hg_core.specs.Keeping.{state_in}
use Rattle.hg_core.specs.Stored.{core_of, IsStored}
use Rattle.hg_core.proofs.After.{IsAfter, after_still, heap_read, heap_below}
use Rattle.hg_core.proofs.HoldersKept.{MovesNone}

module _ {a : Inside} {s : Core} {at worker : ℕ} {old : Held PlainWords} (stored : IsStored a)
    (view : core_of a ≡ s) (below : worker < s.policy.workers) (same : at ≡ worker)
    (there : old ≡ slice_index_or (boxed_slice_items a.heaps) at old) where
  abbrev core : Core
  core = core_of a

  pub low : worker < length core.heaps
  low = heap_below core worker stored.kept.tidy
      (subst (λ x. worker < x.policy.workers) (sym view) below)

  pub old_is : heap_of core worker ≡ old
  old_is = heap_read core at worker old stored.kept.tidy
      (subst (λ x. worker < x.policy.workers) (sym view) below) same there

  -- what the machine says that the worker holds, its heap has
  pub here : (segment : ℕ) → holds (state_in s) worker segment ≡ true
      → is_held plain_number old.segments segment ≡ true
  here segment held =
      ap (λ h. is_held plain_number h.segments segment) (sym old_is)
      ∙ sym (holds_is_held core worker segment stored.kept.tidy low)
      ∙ ap (λ x. holds (state_in x) worker segment) view ∙ held

  -- its segments are the policy's
  pub of_policy : AreOf plain_number a.policy old.segments
  of_policy =
      subst (λ h. AreOf plain_number a.policy h.segments) old_is
      (heap_is_of_policy core worker stored.kept.tidy low)

-- the worker's heap before and after, of settled segments
pub record IsHeapCall (a : Inside) (s : Core) (at worker : ℕ) (old new : Held PlainWords) : Type 0
  where
    pub stored : IsStored a
    pub view : core_of a ≡ s
    pub same : at ≡ worker
    pub there : old ≡ slice_index_or (boxed_slice_items a.heaps) at old
    pub below : worker < length (core_of a).heaps
    pub was : heap_of (core_of a) worker ≡ old
    pub settled : (k : Kept PlainWords) → Contains new.segments k → IsSettled plain_records k

pub heap_call : {a : Inside} {s : Core} {at worker : ℕ} {old : Held PlainWords} → IsStored a
    → core_of a ≡ s → worker < s.policy.workers → at ≡ worker
    → old ≡ slice_index_or (boxed_slice_items a.heaps) at old → (new : Held PlainWords)
    → ((k : Kept PlainWords) → Contains new.segments k → IsSettled plain_records k)
    → IsHeapCall a s at worker old new
heap_call stored view below same there new settled = record {
  stored = stored;
  view = view;
  same = same;
  there = there;
  below = low stored view below same there;
  was = old_is stored view below same there;
  settled = settled;
}

module _ {a : Inside} {s : Core} {at worker : ℕ} {old new : Held PlainWords}
    (call : IsHeapCall a s at worker old new) where
  abbrev its : Core
  its = core_of a

  pub after_heap : {e : Event} {x : Answer} → IsChosenBy its worker e x (with_heap its worker new)
      → IsServedBy its worker e x (with_heap its worker new) → MovesNone e
      → IsAfter s (record a { heaps = boxed_slice_with_item a.heaps at new }) worker e x
  after_heap {e} {x} chosen served still =
      after_still a (record a { heaps = boxed_slice_with_item a.heaps at new }) s
      (with_heap its worker new) worker e x call.view call.stored still
      (ap (λ n. with_heap its n new) call.same) refl served chosen

  -- what is the same as in the heap before
  pub are_same : IsSame old new → IsSame (heap_of its worker) new
  are_same kept = subst (λ h. IsSame h new) (sym call.was) kept

  -- a step at the place, and the tie that it leaves
  abbrev pub IsOwn : Place → ℕ → ℕ → Event → Answer → Type 0
  IsOwn place word left e x =
      Stepped plain_number plain_shows plain_steps place word left old.segments new.segments
      × HeapTies plain_number plain_records a.policy (shown_at place word) (shown_at place left)
      e x old.segments new.segments

  pub owns : (place : Place) (word left : ℕ) (e : Event) (x : Answer)
      → IsOwn place word left e x → IsOwnCall its worker place word left e x new
  owns place word left e x own = record {
    below = call.below;
    stepped = subst
        (λ h. Stepped plain_number plain_shows plain_steps place word left h.segments
        new.segments) (sym call.was) own.0;
    ties = subst
        (λ h. HeapTies plain_number plain_records a.policy (shown_at place word)
        (shown_at place left) e x h.segments new.segments) (sym call.was) own.1;
    settled = call.settled;
  }

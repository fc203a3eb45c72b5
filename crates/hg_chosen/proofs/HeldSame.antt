-- A heap that came in place of a worker's, where the holders are the same.
use Rattle.std.proofs.Common.{◌≡◌, ℕ, ◌<◌, length, set, sym, ap, subst, ◌∙◌}
use Rattle.std.proofs.lemmas.List.{map-set, length-set}
use Rattle.hg_place.specs.declared.plain.PlainWords.{PlainWords}
use Rattle.hg_segment.specs.Parted.{plain_number}
use Rattle.hg_machine.specs.State.{State}
use Rattle.hg_machine.specs.Holders.{holds}
use Rattle.hg_machine.specs.Lists.{Kept}
use Rattle.hg_heap.specs.Held.{Held, is_held}
use Rattle.hg_agreement.specs.Parts.{state_of, kept_of}
use Rattle.hg_parts.specs.Tidy.{IsTidy}
use Rattle.hg_events.specs.Core.{Core, parts_of, heap_of}
use Rattle.hg_events.specs.Own.{with_heap}
use Rattle.hg_events.proofs.Elsewhere.{holds_is_held}
use Rattle.hg_chosen.proofs.HeapLists.{heap_now}

-- what a core is seen as
abbrev pub seen : Core → Kept
seen core = kept_of (parts_of core)

is_held_by_list : (w segment : ℕ) (s t : State) → t.holders ≡ s.holders
    → holds t w segment ≡ holds s w segment
is_held_by_list w segment s t e = ap (λ hs. holds (record s { holders = hs }) w segment) e

module _ (core : Core) (worker : ℕ) (heap : Held PlainWords) (t : IsTidy (parts_of core))
    (below : worker < length core.heaps)
    (after : IsTidy (parts_of (with_heap core worker heap))) where
  -- the heap holds what it held
  pub held_same : (state_of (parts_of (with_heap core worker heap))).holders
      ≡ (state_of (parts_of core)).holders
      → (n : ℕ) → is_held plain_number heap.segments n
      ≡ is_held plain_number (heap_of core worker).segments n
  held_same holders n =
      sym (ap (λ h. is_held plain_number h.segments n) (heap_now core worker heap below))
      ∙ sym (holds_is_held (with_heap core worker heap) worker n after
      (subst (λ m. worker < m) (sym (length-set core.heaps worker heap)) below))
      ∙ is_held_by_list worker n (state_of (parts_of core))
      (state_of (parts_of (with_heap core worker heap))) holders
      ∙ holds_is_held core worker n t below

  -- and its queues stand in their place
  pub queues_put : (seen (with_heap core worker heap)).queues
      ≡ set (seen core).queues worker heap.queues
  queues_put = map-set (λ held. held.queues) core.heaps worker heap

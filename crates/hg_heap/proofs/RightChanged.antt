-- A heap stays right where one page of one segment has changed.
use Rattle.std.proofs.Common.{◌≡◌, ⊎_elim, ℕ, ◌+◌, ◌*◌, ◌<◌, List, length, Option, sym}
use Rattle.std.proofs.Common.{ap, subst, ◌∙◌}
use Rattle.std.proofs.Common.{arith, slice_set, slice_index}
use Rattle.std.specs.Prelude.{Contains}
use Rattle.hg_place.specs.declared.geometry.TheConstants.{SEGMENT_PAGES, MAX_SEGMENTS}
use Rattle.hg_place.specs.declared.standing.Standing.{Standing}
use Rattle.hg_size.specs.Sizes.{number_of_size}
use Rattle.hg_size.specs.SizeLaws.{key_of}
use Rattle.hg_size.proofs.Table.{number_below}
use Rattle.hg_queue.specs.declared.page_queues.TheConstants.{ARENAS}
use Rattle.hg_segment.specs.declared.charges.TheConstants.{TENANTS}
use Rattle.hg_segment.specs.Kept.{Kept, lists_at}
use Rattle.hg_heap.specs.Held.{Kind, has_place}
use Rattle.hg_heap.specs.Queues.{AreQueued}
use Rattle.hg_heap.specs.Requeued.{requeued}
use Rattle.hg_heap.specs.Charges.{charge_in}
use Rattle.hg_heap.specs.Settled.{IsSettled}
use Rattle.hg_heap.specs.Right.{IsRight}
use Rattle.hg_heap.proofs.Founds.{Contains-get, contained_set, tabled_same, number_is}
use Rattle.hg_heap.proofs.PageChanged.{PageChange, queued_now}

module _ {S : Type 0} (number : S → ℕ) (records : S → List Standing) where
  module _ (old : List (Kept S)) (found page : ℕ) (one after : Kept S)
      (h : PageChange number old found page one after)
      (settled : IsSettled records after) where
    abbrev new : List (Kept S)
    new = slice_set old found after

    pub settled_now : ((k : Kept S) → Contains old k → IsSettled records k) → (k : Kept S)
        → Contains new k → IsSettled records k
    settled_now was k on = ⊎_elim (λ e. subst (IsSettled records) (sym e) settled)
        (λ there. was k there) (contained_set old found after k on)

    arena_below : ((k : Kept S) → Contains old k → k.arena < ARENAS) → one.arena < ARENAS
    arena_below was = was one (Contains-get old found one h.here.at)

    pub arenas_now : ((k : Kept S) → Contains old k → k.arena < ARENAS) → (k : Kept S)
        → Contains new k → k.arena < ARENAS
    arenas_now was k on = ⊎_elim
        (λ e. subst (λ (n : ℕ). n < ARENAS)
        (sym (ap (λ (x : Kept S). x.arena) e ∙ ap (λ (d : Kind). d.arena) h.kind))
        (arena_below was))
        (λ there. was k there) (contained_set old found after k on)

    -- charges that are counted anew, and queues in which the page stands where it belongs
    pub right_changed : ((s : S) → number s < MAX_SEGMENTS)
        → (table : List (Option ℕ)) (charges counted : List ℕ) (capacity : ℕ)
        (queues now : List (List ℕ))
        → IsRight number records table charges capacity
        (record { segments = old; queues = queues })
        → now ≡ requeued (key_of one.arena (number_of_size h.size))
        (h.segment * SEGMENT_PAGES + page) (has_place (lists_at after.lists page)) queues
        → length counted ≡ TENANTS
        → ((tenant : ℕ) → tenant < TENANTS
        → slice_index counted tenant ≡ charge_in records new tenant)
        → IsRight number records table counted capacity (record { segments = new; queues = now })
    right_changed numbered table charges counted capacity queues now r e all charged =
        let size_below = number_below h.size (settled.sizes page h.size h.class) in
        let arena = arena_below r.arenas in
        let low : h.segment < MAX_SEGMENTS =
        subst (λ (n : ℕ). n < MAX_SEGMENTS) (number_is number old h.segment found one h.here)
        (numbered one.slots) in
        let page_low = h.low in
        record {
          tabled = tabled_same number table old found one after r.tabled h.here.at
              (ap (λ (d : Kind). d.number) h.kind);
          room = r.room;
          settled = settled_now r.settled;
          arenas = arenas_now r.arenas;
          queued = subst (λ (qs : List (List ℕ)). AreQueued number
              (record { segments = new; queues = qs })) (sym e)
              (queued_now number old found page one after h queues r.queued
              (omega (arith, size_below, arena, r.queued.queues.all))
              (omega (arith, low, page_low)));
          counted = all;
          charged = charged;
        }

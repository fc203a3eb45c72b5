-- A worker's heap is collected.
use Rattle.std.proofs.Common.{◌≡◌, ℕ, ◌<◌, length, slice_index_or, Contains, refl, sym, ap, subst}
use Rattle.std.proofs.Common.{◌∙◌}
use Rattle.std.specs.Box.{boxed_slice_items, boxed_slice_with_item}
use Rattle.hg_place.specs.declared.plain.PlainWords.{PlainWords}
use Rattle.hg_place.specs.Plain.{plain_records}
use Rattle.hg_segment.specs.Kept.{Kept}
use Rattle.hg_segment.specs.Parted.{plain_number}
use Rattle.hg_heap.specs.Held.{Held}
use Rattle.hg_heap.specs.Idle.{idle_pages, Collected, IdleAreOut}
use Rattle.hg_heap.specs.Settled.{IsSettled}
use Rattle.hg_events.specs.Core.{Core, heap_of}
use Rattle.hg_events.specs.Collects.{with_collected, IsCollected}
use Rattle.hg_events.proofs.Collects.{collect_is_step}
use Rattle.hg_chosen.proofs.Emptied.{collect_is_chosen}
use Rattle.hg_core.specs.declared.stores.Stores.TheInside.{Inside}
use Rattle.hg_core.specs.Stored.{core_of, IsStored}
use Rattle.hg_core.proofs.After.{IsAfter, after_still, heap_read, heap_below}
use Rattle.hg_machine.specs.declared.Event.TheVariants as event
use Rattle.hg_machine.specs.declared.Answer.TheVariants as answer

pub after_collect : (a : Inside) (s : Core) (at worker count : ℕ) (old new : Held PlainWords)
    → core_of a ≡ s → IsStored a → worker < s.policy.workers → at ≡ worker
    → old ≡ slice_index_or (boxed_slice_items a.heaps) at old
    → count ≡ idle_pages plain_number plain_records old.segments
    → Collected plain_number plain_records old new
    → IdleAreOut plain_number plain_records old new
    → ((k : Kept PlainWords) → Contains new.segments k → IsSettled plain_records k)
    → IsAfter s (record a { heaps = boxed_slice_with_item a.heaps at new }) worker event.Collect
    (answer.Pages count)
after_collect a s at worker count old new view stored below same there pages collected out settled =
    let core = core_of a in
    let tidy = stored.kept.tidy in
    let low : worker < core.policy.workers = subst (λ x. worker < x.policy.workers) (sym view) below
    in
    let has_heap : worker < length core.heaps = heap_below core worker tidy low in
    let old_is = heap_read core at worker old tidy low same there in
    let done : IsCollected (heap_of core worker) new count = record {
      pages = pages ∙ ap (λ h. idle_pages plain_number plain_records h.segments) (sym old_is);
      collected = subst (λ h. Collected plain_number plain_records h new) (sym old_is) collected;
      settled = settled;
    } in
    after_still a (record a { heaps = boxed_slice_with_item a.heaps at new }) s
    (with_collected core worker new) worker event.Collect (answer.Pages count) view stored tt
    (ap (λ n. with_collected core n new) same) refl
    (collect_is_step core worker new count stored.kept.policy tidy has_heap done)
    (collect_is_chosen core worker new count stored.kept.policy tidy has_heap done
    (subst (λ h. IdleAreOut plain_number plain_records h new) (sym old_is) out))

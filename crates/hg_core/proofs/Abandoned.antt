-- A worker gives up a segment.
use Rattle.std.proofs.Common.{◌≡◌, ℕ, ◌<◌, [], ◌∷◌, ◌++◌, Some, None, slice_index_or, slice_set}
use Rattle.std.proofs.Common.{refl, sym, ap, subst, ◌∙◌}
use Rattle.std.specs.Box.{boxed_slice_items, boxed_slice_with_item}
use Rattle.std.proofs.lemmas.List.{length-set}
use Rattle.hg_place.specs.declared.plain.PlainWords.{PlainWords}
use Rattle.hg_segment.specs.Kept.{Kept}
use Rattle.hg_segment.specs.Parted.{plain_number}
use Rattle.hg_pool.specs.Pooled.{Pooled, IsPooled}
use Rattle.hg_heap.specs.Held.{Held, segment_in}
use Rattle.hg_heap.specs.Releasing.{without_segment, without_pages}
use Rattle.hg_machine.specs.State.{State, orphan}
use Rattle.hg_machine.proofs.Answered.{state_is_determined}
use Rattle.hg_events.specs.Core.{Core, heap_of}
use Rattle.hg_events.specs.LetGo.{IsHeldBy, without, let_go}
use Rattle.hg_events.proofs.LetGo.{held_is_unpooled, abandon_is_served, abandon_is_refused}
use Rattle.hg_chosen.proofs.Leaving.{abandon_is_chosen}
use Rattle.hg_core.specs.declared.stores.Stores.TheInside.{Inside}
use Rattle.hg_core.specs.Keeping.{state_in}
use Rattle.hg_core.specs.Stored.{core_of, IsStored}
use Rattle.hg_core.proofs.After.{IsAfter, after_moved, after_refused, heap_read, heap_below}
use Rattle.hg_core.proofs.After.{put_back}
use Rattle.hg_core.proofs.HoldersKept.{holders_abandoned}
use Rattle.hg_machine.specs.declared.Event.TheVariants as event
use Rattle.hg_machine.specs.declared.Answer.TheVariants as answer

module _ (a : Inside) (s : Core) (at worker segment : ℕ) (old : Held PlainWords)
    (view : core_of a ≡ s) (stored : IsStored a) (below : worker < s.policy.workers)
    (same : at ≡ worker) (there : old ≡ slice_index_or (boxed_slice_items a.heaps) at old) where
  abbrev core : Core
  core = core_of a

  low : worker < core.policy.workers
  low = subst (λ x. worker < x.policy.workers) (sym view) below

  old_is : heap_of core worker ≡ old
  old_is = heap_read core at worker old stored.kept.tidy low same there

  -- none where its heap hasn't it
  pub nothing_abandoned : (new : Held PlainWords) → new ≡ old
      → segment_in plain_number old.segments segment ≡ None
      → IsAfter s (record a { heaps = boxed_slice_with_item a.heaps at new }) worker
      (event.Abandon segment) answer.NotHeld
  nothing_abandoned new unchanged none =
      after_refused a (record a { heaps = boxed_slice_with_item a.heaps at new }) s worker
      (event.Abandon segment) answer.NotHeld view stored
      (ap (λ hs. record core { heaps = hs }) (put_back core.heaps at old new there unchanged)) refl
      refl
      (abandon_is_refused core worker segment stored.kept.tidy
      (heap_below core worker stored.kept.tidy low)
      (ap (λ h. segment_in plain_number h.segments segment) old_is ∙ none))

  module _ (one : Kept PlainWords)
      (found : segment_in plain_number old.segments segment ≡ Some one) where
    held : IsHeldBy core worker segment one
    held = ap (λ h. segment_in plain_number h.segments segment) old_is ∙ found

    -- the pool takes it
    pub unpooled : ¬ IsPooled plain_number core.pool (plain_number one.slots)
    unpooled = held_is_unpooled core worker segment one stored.kept.tidy held

    pub after_abandon : (n : ℕ) (new : Held PlainWords) (pool : Pooled PlainWords) → n ≡ segment
        → new.segments ≡ without_segment plain_number old.segments segment
        → new.queues ≡ without_pages segment old.queues
        → pool.orphans ≡ core.pool.orphans ++ one ∷ [] → pool.fresh ≡ core.pool.fresh
        → IsAfter s
        (record a {
          heaps = boxed_slice_with_item a.heaps at new;
          pool = pool;
          holders = slice_set a.holders n None;
        }) worker (event.Abandon segment) answer.Done
    after_abandon n new pool number segments queues orphans unused =
        let has_heap = heap_below core worker stored.kept.tidy low in
        let served = abandon_is_served core worker segment one stored.kept.tidy has_heap held in
        let after : Core = let_go core worker segment one in
        let new_is : new ≡ without (heap_of core worker) segment =
        ap (λ x. record { segments = x; queues = new.queues }) segments
        ∙ ap (λ x. record {
          segments = without_segment plain_number old.segments segment;
          queues = x;
        }) queues
        ∙ ap (λ h. without h segment) (sym old_is) in
        let pool_is : pool ≡ record core.pool { orphans = core.pool.orphans ++ one ∷ [] } =
        ap (λ x. record { orphans = x; fresh = pool.fresh }) orphans
        ∙ ap (λ x. record { orphans = core.pool.orphans ++ one ∷ []; fresh = x }) unused in
        let b : Inside = record a {
          heaps = boxed_slice_with_item a.heaps at new;
          pool = pool;
          holders = slice_set a.holders n None;
        } in
        after_moved a b s after worker (event.Abandon segment) answer.Done view stored
        (ap (λ k. record core { heaps = slice_set core.heaps k new; pool = pool }) same
        ∙ ap (λ h. record core { heaps = slice_set core.heaps worker h; pool = pool }) new_is
        ∙ ap (λ p. record core {
          heaps = slice_set core.heaps worker (without (heap_of core worker) segment);
          pool = p;
        }) pool_is)
        served (length-set a.holders n None)
        (holders_abandoned a.holders (state_in core) (state_in after) n
        (ap (λ (x : State). x.holders)
        (state_is_determined (state_in core) worker (event.Abandon segment) answer.Done
        (state_in after) served.0)
        ∙ ap (λ k. slice_set (state_in core).holders k orphan) (sym number))
        stored.holders)
        (abandon_is_chosen core worker segment one stored.kept.tidy has_heap held)

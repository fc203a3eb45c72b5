-- What was sent to a segment of a worker comes home.
use Rattle.std.proofs.Common.{◌≡◌, ℕ, ◌<◌, true, false, length, Contains, slice_index_or, refl, sym}
use Rattle.std.proofs.Common.{ap, subst, ◌∙◌, arith}
use Rattle.std.specs.Box.{boxed_slice_items, boxed_slice_with_item}
use Rattle.std.proofs.lemmas.List.{get_or_read}
use Rattle.hg_place.specs.declared.plain.PlainWords.{PlainWords}
use Rattle.hg_place.specs.Plain.{plain_records}
use Rattle.hg_remote.specs.Remote.{Remote, nothing_sent}
use Rattle.hg_remote.specs.Order.{drained}
use Rattle.hg_segment.specs.Kept.{Kept}
use Rattle.hg_segment.specs.Parted.{plain_number}
use Rattle.hg_heap.specs.Held.{Held, is_held}
use Rattle.hg_heap.specs.Settled.{IsSettled}
use Rattle.hg_heap.specs.Taking.{Takes}
use Rattle.hg_events.specs.Core.{Core}
use Rattle.hg_events.specs.Take.{plain_shows, plain_steps, remote_of, with_taken, IsTaking}
use Rattle.hg_events.proofs.Taking.{taking_is_take, no_take_is_take}
use Rattle.hg_chosen.proofs.Taken.{take_is_chosen}
use Rattle.hg_core.specs.declared.stores.Stores.TheInside.{Inside}
use Rattle.hg_core.specs.Stored.{core_of, IsStored}
use Rattle.hg_core.proofs.After.{IsAfter, after_still, after_refused, heap_read, heap_below}
use Rattle.hg_core.proofs.After.{put_back, held_inside, remotes_all}
use Rattle.hg_machine.specs.declared.Event.TheVariants as event
use Rattle.hg_machine.specs.declared.Answer.TheVariants as answer

module _ (a : Inside) (s : Core) (at worker segment : ℕ) (old : Held PlainWords)
    (view : core_of a ≡ s) (stored : IsStored a) (below : worker < s.policy.workers)
    (same : at ≡ worker) (there : old ≡ slice_index_or (boxed_slice_items a.heaps) at old) where
  abbrev core : Core
  core = core_of a

  low : worker < core.policy.workers
  low = subst (λ x. worker < x.policy.workers) (sym view) below

  -- nothing does where the worker doesn't hold it
  pub nothing_taken : is_held plain_number old.segments segment ≡ false
      → IsAfter s (record a { heaps = boxed_slice_with_item a.heaps at old }) worker
      (event.Take segment) answer.NotHeld
  nothing_taken none =
      let t = stored.kept.tidy in
      after_refused a (record a { heaps = boxed_slice_with_item a.heaps at old }) s worker
      (event.Take segment) answer.NotHeld view stored
      (ap (λ hs. record core { heaps = hs }) (put_back core.heaps at old old there refl)) refl refl
      (no_take_is_take core worker segment t (heap_below core worker t low)
      (ap (λ h. is_held plain_number h.segments segment)
      (heap_read core at worker old t low same there) ∙ none))

  module _ (held : is_held plain_number old.segments segment ≡ true) where
    -- it has a remote list
    pub has_remote : segment < length core.remotes
    has_remote =
        let t = stored.kept.tidy in
        omega (
          arith,
          remotes_all core t,
          held_inside core worker segment t
              (ap (λ h. is_held plain_number h.segments segment)
              (heap_read core at worker old t low same there) ∙ held),
        )

    pub after_take : (n count : ℕ) (new : Held PlainWords) (sent left : Remote) → n ≡ segment
        → sent ≡ slice_index_or (boxed_slice_items a.remotes) n sent → left ≡ nothing_sent
        → Takes plain_number plain_records plain_shows plain_steps segment (drained sent) old new
        count
        → ((k : Kept PlainWords) → Contains new.segments k → IsSettled plain_records k)
        → IsAfter s
        (record a {
          heaps = boxed_slice_with_item a.heaps at new;
          remotes = boxed_slice_with_item a.remotes n left;
        }) worker (event.Take segment) (answer.Taken count)
    after_take n count new sent left number sent_there empty taken settled =
        let t = stored.kept.tidy in
        let sent_is : remote_of core segment ≡ sent =
        ap (remote_of core) (sym number)
        ∙ sym (get_or_read core.remotes n sent (omega (arith, has_remote, number)) sent_there
        nothing_sent) in
        let taking : IsTaking core worker segment new count =
        record {
          worker_below = heap_below core worker t low;
          held = ap (λ h. is_held plain_number h.segments segment)
              (heap_read core at worker old t low same there) ∙ held;
          taken = subst
              (λ h. Takes plain_number plain_records plain_shows plain_steps segment
              (drained (remote_of core segment)) h new count)
              (sym (heap_read core at worker old t low same there))
              (subst (λ r. Takes plain_number plain_records plain_shows plain_steps segment
              (drained r) old new count) (sym sent_is) taken);
          settled = settled;
        } in
        after_still a
        (record a {
          heaps = boxed_slice_with_item a.heaps at new;
          remotes = boxed_slice_with_item a.remotes n left;
        }) s (with_taken core worker new segment) worker (event.Take segment)
        (answer.Taken count) view stored tt
        (cc)
        refl
        (taking_is_take core worker segment new count stored.kept.policy t taking)
        (take_is_chosen core worker segment new count stored.kept.policy t taking)

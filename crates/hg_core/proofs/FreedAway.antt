-- A block is freed by a worker that doesn't hold its segment.
use Rattle.std.proofs.Common.{◌≡◌, ◌≢◌, ℕ, ◌<◌, true, false, Option, Some, None, map, length}
use Rattle.std.proofs.Common.{slice_index, slice_index_or, slice_set, is_some, refl, sym, ap, subst}
use Rattle.std.proofs.Common.{◌∙◌}
use Rattle.std.specs.Option.{option_map}
use Rattle.std.specs.Box.{boxed_slice_items, boxed_slice_with_item}
use Rattle.std.proofs.lemmas.List.{map-set}
use Rattle.hg_place.specs.declared.Actor.{Actor}
use Rattle.hg_place.specs.declared.Handle.{Handle}
use Rattle.hg_place.specs.declared.Place.{Place}
use Rattle.hg_place.specs.declared.plain.PlainWords.{PlainWords}
use Rattle.hg_place.specs.Lives.{IsLiveWord}
use Rattle.hg_place.specs.Places.{number_of}
use Rattle.hg_place.specs.Plain.{plain_words}
use Rattle.hg_place.specs.Standings.{slot_of}
use Rattle.hg_segment.specs.Parted.{plain_number}
use Rattle.hg_heap.specs.Held.{Held}
use Rattle.hg_heap.specs.Parting.{word_in, PartedIn as PartedInHeap}
use Rattle.hg_heap.specs.Reading.{use_denial}
use Rattle.hg_pool.specs.Pooled.{Pooled, IsPooled, IsOf}
use Rattle.hg_pool.specs.Parting.{PartedIn as PartedInPool}
use Rattle.hg_machine.specs.declared.Rule.{Rule}
use Rattle.hg_machine.specs.Denial.{verdict_of}
use Rattle.hg_machine.specs.Holders.{holds}
use Rattle.hg_machine.specs.State.{holder_at}
use Rattle.hg_machine.specs.Steps.{Step}
use Rattle.hg_events.specs.Core.{Core, heap_of}
use Rattle.hg_events.specs.Elsewhere.{IsAway, word_at}
use Rattle.hg_events.specs.Own.{with_heap}
use Rattle.hg_events.specs.PartedAway.{MayPart, with_in_hand, with_pool}
use Rattle.hg_events.proofs.Elsewhere.{free_is_denied_elsewhere, free_is_busy}
use Rattle.hg_events.proofs.Elsewhere.{undenied_word_is_live}
use Rattle.hg_events.proofs.PartedInHeap.{free_is_parted_in_heap}
use Rattle.hg_events.proofs.PartedInPool.{free_is_parted_in_pool}
use Rattle.hg_events.proofs.WordAt.{unheld_is_pooled}
use Rattle.hg_chosen.proofs.Parted.{parted_in_heap_is_chosen, parted_in_pool_is_chosen}
use Rattle.hg_core.specs.declared.stores.Stores.TheInside.{Inside}
use Rattle.hg_core.specs.Keeping.{state_in, IsKept}
use Rattle.hg_core.specs.Held.{worker_in}
use Rattle.hg_core.specs.Stored.{core_of, IsStored}
use Rattle.hg_core.proofs.After.{IsAfter, after_still, heap_read}
use Rattle.hg_core.proofs.Away.{is_away}
use Rattle.hg_core.proofs.Delivered.{hand_read}
use Rattle.hg_core.proofs.Words.{holder_below, no_holder, heap_word, pool_word}
use Rattle.hg_place.specs.declared.Right.TheVariants as right
use Rattle.hg_machine.specs.declared.Answer.TheVariants as answer
use Rattle.hg_machine.specs.declared.Event.TheVariants as event
use Rattle.hg_machine.specs.declared.Verdict.TheVariants as verdict

-- the verdict, as what denies it
pub denied_some : (denial : Option Rule) (rule : Rule) → verdict.Denied rule ≡ verdict_of denial
    → denial ≡ Some rule
denied_some None rule is = absurd (cc)
denied_some (Some other) rule is = cc

pub allowed_none : (denial : Option Rule) → verdict.Allowed ≡ verdict_of denial → denial ≡ None
allowed_none None is = refl
allowed_none (Some other) is = absurd (cc)

module _ (a : Inside) (s : Core) (worker : ℕ) (actor : Actor) (handle : Handle) (word : ℕ)
    (view : core_of a ≡ s) (stored : IsStored a) (below : worker < s.policy.workers)
    (word_is : word ≡ word_at s handle.place) where
  kept : IsKept s
  kept = subst IsKept view stored.kept

  abbrev core : Core
  core = core_of a

  low : worker < core.policy.workers
  low = subst (λ x. worker < x.policy.workers) (sym view) below

  in_hand : (to : ℕ) → to ≡ worker
      → map (option_map number_of) (slice_set (boxed_slice_items a.hands) to (Some handle.place))
      ≡ slice_set core.hands worker (Some (number_of handle.place))
  in_hand to back =
      map-set (option_map number_of) (boxed_slice_items a.hands) to (Some handle.place)
      ∙ ap (λ k. slice_set core.hands k (Some (number_of handle.place))) back

  word_here : word ≡ word_at core handle.place
  word_here = word_is ∙ ap (λ x. word_at x handle.place) (sym view)

  told : (denial : Option Rule) → use_denial a.policy actor.0 right.Free handle word ≡ denial
      → use_denial a.policy actor.0 right.Free handle (word_at core handle.place) ≡ denial
  told denial is = ap (use_denial a.policy actor.0 right.Free handle) (sym word_here) ∙ is

  -- denied by a rule
  pub denied : (rule : Rule) → use_denial a.policy actor.0 right.Free handle word ≡ Some rule
      → Step (state_in s) worker (event.Free actor handle) (answer.Denied rule) (state_in s)
  denied rule is =
      subst (λ x. Step (state_in x) worker (event.Free actor handle) (answer.Denied rule)
      (state_in x)) view
      (free_is_denied_elsewhere core worker actor handle rule stored.kept.policy stored.kept.tidy
      (told (Some rule) is))

  module _ (undenied : use_denial a.policy actor.0 right.Free handle word ≡ None)
      (none : holds (state_in s) worker handle.place.segment ≡ false) where
    away : IsAway core worker handle.place.segment
    away = subst (λ x. IsAway x worker handle.place.segment) (sym view)
        (is_away s worker kept below handle.place.segment none)

    alive_inside : IsLiveWord (word_at core handle.place)
        × (handle.place.segment < length core.policy.segments)
    alive_inside =
        undenied_word_is_live core actor.0 right.Free handle stored.kept.tidy
        (told None undenied)

    pub alive : IsLiveWord word
    alive = subst IsLiveWord (sym word_here) alive_inside.0

    -- refused where there is a place in hand
    pub busy : (at : ℕ) (hand : Option Place) → at ≡ worker
        → hand ≡ slice_index_or (boxed_slice_items a.hands) at hand → is_some hand ≡ true
        → Step (state_in s) worker (event.Free actor handle) answer.Busy (state_in s)
    busy at None same there some = absurd (cc)
    busy at (Some place) same there some =
        subst (λ x. Step (state_in x) worker (event.Free actor handle) answer.Busy (state_in x))
        view
        (free_is_busy core worker actor handle (number_of place) stored.kept.policy
        stored.kept.tidy away (told None undenied)
        (hand_read a s at worker (Some place) view stored below same there))

    pub may_part : (at : ℕ) (hand : Option Place) → at ≡ worker
        → hand ≡ slice_index_or (boxed_slice_items a.hands) at hand → is_some hand ≡ false
        → MayPart core worker actor handle word
    may_part at None same there empty = record {
      away = away;
      undenied = undenied;
      empty = hand_read a s at worker None view stored below same there;
    }
    may_part at (Some place) same there empty = absurd (cc)

    -- parted where another worker holds its segment
    module _ (holder at : ℕ) (old : Held PlainWords)
        (is : worker_in (holder_at (state_in s) handle.place.segment) ≡ Some holder)
        (same : at ≡ holder) (there : old ≡ slice_index_or (boxed_slice_items a.heaps) at old)
      where
        old_is : heap_of core holder ≡ old
        old_is =
            heap_read core at holder old stored.kept.tidy
            (subst (λ x. holder < x.policy.workers) (sym view)
            (holder_below s kept holder handle.place.segment is)) same there

        pub heap_parts : (other : ℕ) → other ≢ word
            → word_in old.segments handle.place ≡ Some other → ⊥
        heap_parts other ne stands =
            ne (heap_word a s handle.place view stored holder at old is same there other stands
            ∙ sym word_is)

        pub parted_in_heap : (to : ℕ) (new : Held PlainWords) → to ≡ worker
            → MayPart core worker actor handle word
            → PartedInHeap handle.place word old.segments new.segments
            → new.queues ≡ old.queues
            → IsAfter s
            (record a {
              heaps = boxed_slice_with_item a.heaps at new;
              hands = boxed_slice_with_item a.hands to (Some handle.place);
            }) worker (event.Free actor handle) answer.Parted
        parted_in_heap to new back may parted queues =
            let there : PartedInHeap handle.place word (heap_of core holder).segments new.segments =
            subst (λ h. PartedInHeap handle.place word h.segments new.segments) (sym old_is)
            parted in
            after_still a
            (record a {
              heaps = boxed_slice_with_item a.heaps at new;
              hands = boxed_slice_with_item a.hands to (Some handle.place);
            }) s (with_in_hand (with_heap core holder new) worker handle.place) worker
            (event.Free actor handle) answer.Parted view stored tt
            (ap (λ k. record core {
              heaps = slice_set core.heaps k new;
              hands = map (option_map number_of)
                  (slice_set (boxed_slice_items a.hands) to (Some handle.place));
            }) same
            ∙ ap (λ hs. record core { heaps = slice_set core.heaps holder new; hands = hs })
            (in_hand to back))
            refl
            (free_is_parted_in_heap core worker actor handle word holder new stored.kept.policy
            stored.kept.tidy may there)
            (parted_in_heap_is_chosen core worker actor handle word holder new stored.kept.policy
            stored.kept.tidy may there (queues ∙ ap (λ h. h.queues) (sym old_is)))

    -- parted where nobody does
    module _ (is : worker_in (holder_at (state_in s) handle.place.segment) ≡ None) where
      pub pooled : IsPooled plain_number a.pool handle.place.segment
      pooled =
          unheld_is_pooled core handle.place.segment stored.kept.tidy alive_inside.1
          (no_holder core stored.kept handle.place.segment
          (ap (λ x. worker_in (holder_at (state_in x) handle.place.segment)) view ∙ is))

      pub pool_parts : (other : ℕ) → other ≢ word
          → IsOf plain_number a.pool handle.place.segment
          (λ one. slice_index (plain_words one.slots) (slot_of handle.place) ≡ other)
          → ⊥
      pool_parts other ne stands =
          ne (pool_word a s handle.place view stored other (stands.0, stands.1, sym stands.2)
          ∙ sym word_is)

      pub parted_in_pool : (to : ℕ) (pool : Pooled PlainWords) → to ≡ worker
          → MayPart core worker actor handle word
          → PartedInPool handle.place word a.pool pool
          → IsAfter s
          (record a {
            pool = pool;
            hands = boxed_slice_with_item a.hands to (Some handle.place);
          }) worker (event.Free actor handle) answer.Parted
      parted_in_pool to pool back may parted =
          after_still a
          (record a {
            pool = pool;
            hands = boxed_slice_with_item a.hands to (Some handle.place);
          }) s (with_in_hand (with_pool core pool) worker handle.place) worker
          (event.Free actor handle) answer.Parted view stored tt
          (ap (λ hs. record core { pool = pool; hands = hs }) (in_hand to back)) refl
          (free_is_parted_in_pool core worker actor handle word pool stored.kept.policy
          stored.kept.tidy may parted)
          (parted_in_pool_is_chosen core worker actor handle word pool stored.kept.policy
          stored.kept.tidy may parted)

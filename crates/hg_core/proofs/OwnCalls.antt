-- Calls on a worker's own heap that leave its places or free one.
use Rattle.std.proofs.Common.{◌≡◌, ◌==◌, ℕ, ◌-◌, Option, Some, None, sym, subst, ◌∙◌}
use Rattle.std.specs.Prelude.{Result, Ok, Err, IfErr, OnOk}
use Rattle.std.specs.Box.{boxed_slice_with_item}
use Rattle.hg_place.specs.declared.Actor.{Actor}
use Rattle.hg_place.specs.declared.Handle.{Handle}
use Rattle.hg_place.specs.declared.Place.{Place}
use Rattle.hg_place.specs.declared.plain.PlainWords.{PlainWords}
use Rattle.hg_place.specs.Lives.{IsLiveWord}
use Rattle.hg_place.specs.Places.{page_number}
use Rattle.hg_place.specs.Plain.{plain_records}
use Rattle.hg_segment.specs.Parted.{plain_number}
use Rattle.hg_heap.specs.declared.refused.Refused.{Refused}
use Rattle.hg_heap.specs.Answers.{refused_answer, read_answer, done_answer, list_denial}
use Rattle.hg_heap.specs.Answers.{away_answer, row_answer}
use Rattle.hg_heap.specs.Held.{Held, lists_on, has_place, greatest_in, KeepsLists}
use Rattle.hg_heap.specs.Lists.{CameHome}
use Rattle.hg_heap.specs.Queues.{key_on}
use Rattle.hg_heap.specs.Requeued.{requeued}
use Rattle.hg_heap.specs.Ties.{Stepped, HeapTies, shown_at}
use Rattle.hg_machine.specs.declared.Row.{Row}
use Rattle.hg_machine.specs.declared.Rule.{Rule}
use Rattle.hg_machine.specs.SoundPolicy.{IsSoundPolicy}
use Rattle.hg_parts.specs.Tidy.{IsTidy}
use Rattle.hg_events.specs.Core.{Core, parts_of}
use Rattle.hg_events.specs.Take.{plain_shows, plain_steps}
use Rattle.hg_events.proofs.OwnLives.{free_is_served}
use Rattle.hg_events.proofs.OwnSteps.{read_is_step, write_is_step, look_is_step, free_is_denied}
use Rattle.hg_chosen.specs.Freed.{IsFreed}
use Rattle.hg_chosen.specs.Same.{IsSame}
use Rattle.hg_chosen.proofs.Freed.{free_is_chosen}
use Rattle.hg_chosen.proofs.Same.{read_is_chosen, write_is_chosen, look_is_chosen}
use Rattle.hg_chosen.proofs.Same.{denied_free_is_chosen}
use Rattle.hg_core.specs.declared.stores.Stores.TheInside.{Inside}
use Rattle.hg_core.specs.Stored.{core_of}
use Rattle.hg_core.proofs.After.{IsAfter}
use Rattle.hg_core.proofs.HeapCall.{IsHeapCall, IsOwn, after_heap, are_same, owns}
use Rattle.hg_heap.specs.declared.refused.Refused.TheVariants as refused
use Rattle.hg_machine.specs.declared.Event.TheVariants as event
use Rattle.hg_machine.specs.declared.Answer.TheVariants as answer

module _ (old new : Held PlainWords) where
  -- a place that is freed is home, and its page stands where it belongs
  pub is_freed : (handle : Handle) (result : Result (Unit {0}) Refused)
      → OnOk result (CameHome plain_number
      (handle.generation == greatest_in plain_number old.segments handle.place.segment)
      (page_number handle.place) handle.place.index old.segments new.segments)
      → OnOk result ((key : ℕ)
      × (key_on plain_number old.segments (page_number handle.place) ≡ Some key)
      × (new.queues
      ≡ requeued key (page_number handle.place)
      (has_place (lists_on plain_number new.segments (page_number handle.place)))
      old.queues))
      → OnOk result (IsFreed handle old new)
  is_freed handle (Ok done) lists queues = record { lists = lists; queues = queues }
  is_freed handle (Err why) lists queues = tt

  -- or all lists and queues are as they were
  pub is_same : (result : Result (Unit {0}) Refused)
      → IfErr result (λ why. KeepsLists plain_number old.segments new.segments)
      → IfErr result (λ why. new.queues ≡ old.queues) → IfErr result (λ why. IsSame old new)
  is_same (Ok done) lists queues = tt
  is_same (Err why) lists queues = record { lists = lists; queues = queues }

module _ {a : Inside} {s : Core} {at worker : ℕ} {old new : Held PlainWords}
    (call : IsHeapCall a s at worker old new) where
  abbrev core : Core
  core = core_of a

  abbrev after : Inside
  after = record a { heaps = boxed_slice_with_item a.heaps at new }

  abbrev policy : IsSoundPolicy a.policy
  policy = call.stored.kept.policy

  abbrev tidy : IsTidy (parts_of core)
  tidy = call.stored.kept.tidy

  pub after_read : (actor : Actor) (handle : Handle) (index word : ℕ) (result : Result ℕ Refused)
      → IsOwn call handle.place word word (event.Read actor handle index) (read_answer result)
      → IsSame old new
      → IsAfter s after worker (event.Read actor handle index) (read_answer result)
  after_read actor handle index word result step kept =
      let own = owns call handle.place word word (event.Read actor handle index)
      (read_answer result) step in
      after_heap call
      (read_is_chosen core worker actor handle index word result new policy tidy own
      (are_same call kept))
      (read_is_step core worker actor handle index word result new policy tidy own) tt

  pub after_write : (actor : Actor) (handle : Handle) (index value word : ℕ)
      (result : Result (Unit {0}) Refused)
      → IsOwn call handle.place word word (event.Write actor handle index value)
      (done_answer result)
      → IsSame old new
      → IsAfter s after worker (event.Write actor handle index value) (done_answer result)
  after_write actor handle index value word result step kept =
      let own = owns call handle.place word word (event.Write actor handle index value)
      (done_answer result) step in
      after_heap call
      (write_is_chosen core worker actor handle index value word result new policy tidy own
      (are_same call kept))
      (write_is_step core worker actor handle index value word result new policy tidy own) tt

  pub after_look : (actor : Actor) (place : Place) (word : ℕ) (row : Option Row)
      → IsOwn call place word word (event.Look actor place)
      (row_answer row (list_denial a.policy actor place word))
      → IsSame old new
      → IsAfter s after worker (event.Look actor place)
      (row_answer row (list_denial a.policy actor place word))
  after_look actor place word row step kept =
      let own = owns call place word word (event.Look actor place)
      (row_answer row (list_denial a.policy actor place word)) step in
      after_heap call
      (look_is_chosen core worker actor place word row new policy tidy own (are_same call kept))
      (look_is_step core worker actor place word row new policy tidy own) tt

  -- or by the verdict on the word that was shown, where there is no row
  pub after_unlisted : (actor : Actor) (place : Place) (word : ℕ) (why : Refused)
      → refused_answer why ≡ away_answer (list_denial a.policy actor place word)
      → IsOwn call place word word (event.Look actor place)
      (row_answer None (list_denial a.policy actor place word))
      → IsSame old new
      → IsAfter s after worker (event.Look actor place) (refused_answer why)
  after_unlisted actor place word why is step kept =
      subst (λ x. IsAfter s after worker (event.Look actor place) x)
      (sym is)
      (after_look actor place word None step kept)

  after_free : (actor : Actor) (handle : Handle) (word : ℕ) → IsLiveWord word
      → IsOwn call handle.place word (word - 1) (event.Free actor handle) answer.Done
      → IsFreed handle old new → IsAfter s after worker (event.Free actor handle) answer.Done
  after_free actor handle word alive step freed =
      let own = owns call handle.place word (word - 1) (event.Free actor handle) answer.Done step in
      after_heap call
      (free_is_chosen core worker actor handle word new policy tidy alive own
      (subst (λ h. IsFreed handle h new) (sym call.was) freed))
      (free_is_served core worker actor handle word new alive policy tidy own) tt

  after_denied : (actor : Actor) (handle : Handle) (word : ℕ) (rule : Rule)
      → IsOwn call handle.place word word (event.Free actor handle) (answer.Denied rule)
      → IsSame old new → IsAfter s after worker (event.Free actor handle) (answer.Denied rule)
  after_denied actor handle word rule step kept =
      let own = owns call handle.place word word (event.Free actor handle) (answer.Denied rule)
      step in
      after_heap call
      (denied_free_is_chosen core worker actor handle word rule new policy tidy own
      (are_same call kept))
      (free_is_denied core worker actor handle word rule new policy tidy own) tt

  abbrev pub IsDeniedFree : Actor → Handle → Refused → Type 0
  IsDeniedFree actor handle why =
      (word : ℕ) × (rule : Rule) × (why ≡ refused.Denied rule)
      × Stepped plain_number plain_shows plain_steps handle.place word word old.segments
      new.segments
      × HeapTies plain_number plain_records a.policy (shown_at handle.place word)
      (shown_at handle.place word) (event.Free actor handle) (answer.Denied rule)
      old.segments new.segments

  -- a free is refused by a rule alone
  pub denied_by : (actor : Actor) (handle : Handle) (result : Result (Unit {0}) Refused)
      → IfErr result (IsDeniedFree actor handle)
      → IfErr result (λ why. (rule : Rule) × (why ≡ refused.Denied rule))
  denied_by actor handle (Ok done) err = tt
  denied_by actor handle (Err why) err = (err.1, err.2)

  -- the block is home, or a rule denies it
  pub after_free_here : (actor : Actor) (handle : Handle) (result : Result (Unit {0}) Refused)
      → OnOk result ((word : ℕ) × IsLiveWord word
      × Stepped plain_number plain_shows plain_steps handle.place word (word - 1) old.segments
      new.segments
      × HeapTies plain_number plain_records a.policy (shown_at handle.place word)
      (shown_at handle.place (word - 1)) (event.Free actor handle) answer.Done
      old.segments new.segments)
      → IfErr result (IsDeniedFree actor handle)
      → OnOk result (IsFreed handle old new) → IfErr result (λ why. IsSame old new)
      → IsAfter s after worker (event.Free actor handle) (done_answer result)
  after_free_here actor handle (Ok done) ok err freed kept =
      after_free actor handle ok.0 ok.1 (ok.2, ok.3) freed
  after_free_here actor handle (Err why) ok err freed kept =
      subst (λ r. IsAfter s after worker (event.Free actor handle) (refused_answer r))
      (sym err.2) (after_denied actor handle err.0 err.1 (err.3, err.4) kept)

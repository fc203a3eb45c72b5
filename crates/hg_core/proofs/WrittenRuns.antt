-- A run of Writes on a worker's own heap, as a run of its core.
use Rattle.std.proofs.Common.{◌≡◌, ℕ, ◌+◌, ◌<◌, List, [], ◌∷◌, length, replicate, slice_set}
use Rattle.std.proofs.Common.{refl, sym, ap, subst, ◌∙◌, arith, Ok, Err}
use Rattle.std.specs.Box.{boxed_slice_with_item}
use Rattle.std.proofs.lemmas.List.{get_or-set_same, set-get_or, set-set, length-set}
use Rattle.hg_place.specs.declared.Actor.{Actor}
use Rattle.hg_place.specs.declared.Handle.{Handle}
use Rattle.hg_place.specs.declared.plain.PlainWords.{PlainWords}
use Rattle.hg_segment.specs.Kept.{Kept}
use Rattle.hg_heap.specs.Held.{Held}
use Rattle.hg_heap.specs.Answers.{refused_answer}
use Rattle.hg_heap.specs.WriteRuns.{WritesOne, WritesRun}
use Rattle.hg_heap.specs.declared.refused.Refused.{Refused}
use Rattle.hg_machine.specs.declared.Event.{Event}
use Rattle.hg_machine.specs.declared.Answer.{Answer}
use Rattle.hg_machine.specs.declared.Answer.TheVariants as answer
use Rattle.hg_machine.specs.declared.Event.TheVariants as event
use Rattle.hg_machine.specs.SoundPolicy.{IsSoundPolicy}
use Rattle.hg_agreement.specs.Parts.{kept_of}
use Rattle.hg_parts.specs.Tidy.{IsTidy}
use Rattle.hg_events.specs.Core.{Core, parts_of, heap_of, nothing_held}
use Rattle.hg_events.specs.Own.{with_heap, IsOwnCall}
use Rattle.hg_events.proofs.OwnSteps.{write_is_step}
use Rattle.hg_choice.specs.ChosenSteps.{Chosen}
use Rattle.hg_chosen.specs.Chosen.{IsChosenBy}
use Rattle.hg_chosen.proofs.Same.{write_is_chosen}
use Rattle.hg_core.specs.declared.stores.Stores.TheInside.{Inside}
use Rattle.hg_core.specs.Keeping.{state_in, IsKept}
use Rattle.hg_core.specs.Stored.{core_of, AreHolders, IsStored}
use Rattle.hg_core.specs.WordEvents.{writes}
use Rattle.hg_core.proofs.HeapCall.{IsHeapCall}
use Rattle.hg_core.proofs.HoldersKept.{holders_kept, holders_same}

-- the events are answered so, one after another, with tidy parts and as many holders after them
pub record IsRunOn (core : Core) (events : List (ℕ × Event)) (answers : List Answer) (new : Core)
    : Type 0 where
  pub run : Chosen (kept_of (parts_of core)) events answers (kept_of (parts_of new))
  pub tidy : IsTidy (parts_of new)
  pub holders :
      (hs : List _) → AreHolders hs (state_in core) → AreHolders hs (state_in new)

-- the heap that is put there last is there alone
put_twice : (core : Core) (worker : ℕ) (one other : Held PlainWords)
    → with_heap (with_heap core worker one) worker other ≡ with_heap core worker other
put_twice core worker one other =
    ap (λ hs. record core { heaps = hs }) (set-set core.heaps worker one other)

-- the worker's own heap is put back
put_back : (core : Core) (worker : ℕ) (heap : Held PlainWords) → heap ≡ heap_of core worker
    → with_heap core worker heap ≡ core
put_back core worker heap same =
    ap (λ hs. record core { heaps = hs })
    (ap (slice_set core.heaps worker) same ∙ set-get_or core.heaps worker nothing_held)

-- and read where it was put
read_back : (core : Core) (worker : ℕ) (heap : Held PlainWords) → worker < length core.heaps
    → heap_of (with_heap core worker heap) worker ≡ heap
read_back core worker heap below = get_or-set_same core.heaps worker heap nothing_held below

module _ (worker : ℕ) (actor : Actor) (handle : Handle) where
  -- one Write is an own call
  own_of : (core : Core) (index value : ℕ) (told : Answer) (new : Held PlainWords)
      → worker < length core.heaps → (one : WritesOne core.policy actor handle index value told
      (heap_of core worker).segments new.segments)
      → IsOwnCall core worker handle.place one.word one.word
      (event.Write actor handle index value) told new
  own_of core index value told new below one = record {
    below = below;
    stepped = one.step;
    ties = one.ties;
    settled = one.settled;
  }

  -- a run of Writes on the heap is one on the core
  pub writes_on : (values : List ℕ) (index : ℕ) (core : Core) (new : Held PlainWords)
      → IsSoundPolicy core.policy → IsTidy (parts_of core) → worker < length core.heaps
      → WritesRun core.policy actor handle index values (heap_of core worker).segments new.segments
      → new.queues ≡ (heap_of core worker).queues
      → IsRunOn core (writes worker actor handle index values)
      (replicate (length values) answer.Done) (with_heap core worker new)
  writes_on [] index core new policy tidy below run queues =
      let heap = heap_of core worker in
      let same : new ≡ heap =
      ap (λ ss. record new { segments = ss }) run ∙ ap (λ qs. record heap { queues = qs }) queues in
      subst (IsRunOn core [] []) (sym (put_back core worker new same))
      (record { run = refl; tidy = tidy; holders = λ hs h. h })
  writes_on (value ∷ values) index core new policy tidy below run queues =
      let heap = heap_of core worker in
      let mid = record heap { segments = run.0 } in
      let next = with_heap core worker mid in
      let own = own_of core index value answer.Done mid below run.1 in
      let chosen = write_is_chosen core worker actor handle index value run.1.word (Ok tt) mid
      policy tidy own (record { lists = run.1.lists; queues = refl }) in
      let served = write_is_step core worker actor handle index value run.1.word (Ok tt) mid policy
      tidy own in
      let there : heap_of next worker ≡ mid = read_back core worker mid below in
      let rest = writes_on values (index + 1) next new policy served.1
      (subst (λ n. worker < n) (sym (length-set core.heaps worker mid)) below)
      (subst (λ h. WritesRun core.policy actor handle (index + 1) values h.segments new.segments)
      (sym there) run.2)
      (queues ∙ ap (λ h. h.queues) (sym there)) in
      subst (IsRunOn core (writes worker actor handle index (value ∷ values))
      (replicate (length (value ∷ values)) answer.Done)) (put_twice core worker mid new) (record {
        run = (kept_of (parts_of next), chosen, rest.run);
        tidy = rest.tidy;
        holders = λ hs h.
            rest.holders hs
            (holders_same hs (state_in core) (state_in next)
            (holders_kept (state_in core) (state_in next) worker
            (event.Write actor handle index value) answer.Done tt served.0) h);
      })

  -- a Write that is refused leaves the core
  pub write_refused_on : (core : Core) (index value : ℕ) (why : Refused)
      → IsSoundPolicy core.policy → IsTidy (parts_of core) → worker < length core.heaps
      → WritesOne core.policy actor handle index value (refused_answer why)
      (heap_of core worker).segments (heap_of core worker).segments
      → IsChosenBy core worker (event.Write actor handle index value) (refused_answer why) core
  write_refused_on core index value why policy tidy below one =
      let heap = heap_of core worker in
      let own = own_of core index value (refused_answer why) heap below one in
      subst (IsChosenBy core worker (event.Write actor handle index value) (refused_answer why))
      (put_back core worker heap refl)
      (write_is_chosen core worker actor handle index value one.word (Err why) heap policy tidy own
      (record { lists = one.lists; queues = refl }))

-- the stores with this heap for a worker
abbrev pub with_own : Inside → ℕ → Held PlainWords → Inside
with_own a at heap = record a { heaps = boxed_slice_with_item a.heaps at heap }

module _ (actor : Actor) (handle : Handle) {a : Inside} {s : Core} {at worker : ℕ}
    {old new : Held PlainWords} (call : IsHeapCall a s at worker old new) (values : List ℕ)
    (index : ℕ)
    (run : WritesRun a.policy actor handle index values old.segments new.segments)
    (queues : new.queues ≡ old.queues) where
  abbrev core : Core
  core = core_of a

  abbrev after : Core
  after = core_of (with_own a at new)

  after_is : after ≡ with_heap core worker new
  after_is = ap (λ n. with_heap core n new) call.same

  on : IsRunOn core (writes worker actor handle index values)
      (replicate (length values) answer.Done) after
  on = subst (IsRunOn core (writes worker actor handle index values)
      (replicate (length values) answer.Done)) (sym after_is)
      (writes_on worker actor handle values index core new call.stored.kept.policy
      call.stored.kept.tidy call.below
      (subst (λ h. WritesRun a.policy actor handle index values h.segments new.segments)
      (sym call.was) run)
      (queues ∙ ap (λ h. h.queues) (sym call.was)))

  -- the stores after it
  pub written_stored : IsStored (with_own a at new)
  written_stored = record {
    kept = record { policy = call.stored.kept.policy; tidy = on.tidy };
    all = call.stored.all;
    holders = on.holders a.holders call.stored.holders;
  }

  pub written_run : Chosen (kept_of (parts_of s)) (writes worker actor handle index values)
      (replicate (length values) answer.Done) (kept_of (parts_of after))
  written_run = subst (λ x. Chosen (kept_of (parts_of x)) (writes worker actor handle index values)
      (replicate (length values) answer.Done) (kept_of (parts_of after))) call.view on.run

  -- the Write of the next word
  pub written_next : (next value : ℕ) (why : Refused)
      → WritesOne a.policy actor handle next value (refused_answer why) new.segments new.segments
      → IsChosenBy after worker (event.Write actor handle next value) (refused_answer why) after
  written_next next value why one =
      subst (λ x. IsChosenBy x worker (event.Write actor handle next value) (refused_answer why) x)
      (sym after_is)
      (write_refused_on worker actor handle (with_heap core worker new) next value why
      call.stored.kept.policy (subst (λ x. IsTidy (parts_of x)) after_is on.tidy)
      (subst (λ n. worker < n) (sym (length-set core.heaps worker new)) call.below)
      (subst (λ h. WritesOne a.policy actor handle next value (refused_answer why) h.segments
      h.segments) (sym (read_back core worker new call.below)) one))

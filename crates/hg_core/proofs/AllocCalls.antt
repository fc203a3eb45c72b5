-- An Alloc by a worker's own heap.
use Rattle.std.proofs.Common.{◌≡◌, ℕ, Option, refl, sym, ap, subst}
use Rattle.std.specs.Prelude.{Result, Ok, Err, IfOk, IfErr}
use Rattle.std.specs.Box.{boxed_slice_with_item}
use Rattle.hg_place.specs.declared.Actor.{Actor}
use Rattle.hg_place.specs.declared.Handle.{Handle}
use Rattle.hg_place.specs.declared.plain.PlainWords.{PlainWords}
use Rattle.hg_place.specs.Lives.{live_word}
use Rattle.hg_place.specs.Plain.{plain_records}
use Rattle.hg_segment.specs.Parted.{plain_number}
use Rattle.hg_heap.specs.declared.refused.Refused.{Refused}
use Rattle.hg_heap.specs.Allotted.{IsAllotted}
use Rattle.hg_heap.specs.Answers.{refused_answer}
use Rattle.hg_heap.specs.Held.{Held}
use Rattle.hg_heap.specs.Ties.{HeapTies, shown_at}
use Rattle.hg_machine.specs.Request.{size_of}
use Rattle.hg_agreement.specs.Views.{Shown}
use Rattle.hg_events.specs.Core.{Core, heap_of}
use Rattle.hg_events.specs.Take.{plain_shows, plain_steps}
use Rattle.hg_events.proofs.OwnLives.{alloc_is_served, alloc_is_refused}
use Rattle.hg_chosen.specs.Choice.{IsHeapSettled}
use Rattle.hg_chosen.specs.Given.{IsGiven as IsInOrder}
use Rattle.hg_chosen.proofs.Allots.{alloc_is_chosen}
use Rattle.hg_core.specs.declared.stores.Stores.TheInside.{Inside}
use Rattle.hg_heap.specs.Answers.{alloc_answer}
use Rattle.hg_core.specs.Stored.{core_of}
use Rattle.hg_core.proofs.After.{IsAfter, after_refused, put_back}
use Rattle.hg_core.proofs.Away.{answers_refusal}
use Rattle.hg_core.proofs.HeapCall.{IsHeapCall, after_heap}
use Rattle.hg_machine.specs.declared.Event.TheVariants as event
use Rattle.hg_machine.specs.declared.Answer.TheVariants as answer

-- what three clauses say of an answer, together
pub if_ok : {X Y : Type 0} (result : Result X Y) (P Q R S : X → Type 0)
    → ((x : X) → P x → Q x → R x → S x) → IfOk result P → IfOk result Q → IfOk result R
    → IfOk result S
if_ok (Ok x) P Q R S both p q r = both x p q r
if_ok (Err e) P Q R S both p q r = tt

module _ {a : Inside} {s : Core} {at worker : ℕ} {old new : Held PlainWords}
    (call : IsHeapCall a s at worker old new) where
  abbrev core : Core
  core = core_of a

  abbrev after : Inside
  after = record a { heaps = boxed_slice_with_item a.heaps at new }

  -- what is allotted, by the handle
  abbrev pub IsGiven : Actor → ℕ → ℕ → Handle → Type 0
  IsGiven actor arena bytes handle =
      (given : IsAllotted plain_number plain_records plain_shows plain_steps (size_of bytes)
      actor.0 handle old.segments new.segments)
      × HeapTies plain_number plain_records a.policy (shown_at handle.place given.word)
      (shown_at handle.place (live_word handle.generation actor.0))
      (event.Alloc actor arena bytes) (answer.Block handle) old.segments new.segments

  abbrev pub IsRefused : Actor → ℕ → ℕ → Refused → Type 0
  IsRefused actor arena bytes refused =
      (new ≡ old)
      × ((shown : Option Shown)
      → HeapTies plain_number plain_records a.policy shown shown
      (event.Alloc actor arena bytes) (refused_answer refused) old.segments old.segments)

  given : (actor : Actor) (arena bytes : ℕ) (handle : Handle) → IsGiven actor arena bytes handle
      → IsHeapSettled old → IsInOrder old new arena (size_of bytes) handle
      → IsAfter s after worker (event.Alloc actor arena bytes) (answer.Block handle)
  given actor arena bytes handle is before order =
      let both : IsGivenFrom (heap_of core worker) = subst IsGivenFrom (sym call.was) is in
      let served = alloc_is_served core worker actor arena bytes handle new call.stored.kept.policy
      call.stored.kept.tidy
      (record {
        below = call.below;
        given = both.0;
        ties = both.1;
        settled = call.settled;
      }) in
      after_heap call
      (alloc_is_chosen core worker actor arena bytes handle new call.stored.kept.policy
      call.stored.kept.tidy call.below (subst IsHeapSettled (sym call.was) before) served
      (subst (λ h. IsInOrder h new arena (size_of bytes) handle) (sym call.was) order)) served tt
    where
      IsGivenFrom : Held PlainWords → Type 0
      IsGivenFrom h =
          (g : IsAllotted plain_number plain_records plain_shows plain_steps (size_of bytes)
          actor.0 handle h.segments new.segments)
          × HeapTies plain_number plain_records a.policy (shown_at handle.place g.word)
          (shown_at handle.place (live_word handle.generation actor.0))
          (event.Alloc actor arena bytes) (answer.Block handle) h.segments new.segments

  not_given : (actor : Actor) (arena bytes : ℕ) (why : Refused) → IsRefused actor arena bytes
      why
      → IsAfter s after worker (event.Alloc actor arena bytes) (refused_answer why)
  not_given actor arena bytes why is =
      after_refused a after s worker (event.Alloc actor arena bytes) (refused_answer why) call.view
      call.stored
      (ap (λ hs. record core { heaps = hs }) (put_back core.heaps at old new call.there is.0)) refl
      (answers_refusal why) (alloc_is_refused core worker actor arena bytes why
      call.stored.kept.policy call.stored.kept.tidy call.below (subst
      (λ h. (shown : Option Shown)
      → HeapTies plain_number plain_records a.policy shown shown
      (event.Alloc actor arena bytes) (refused_answer why) h.segments h.segments)
      (sym call.was) is.1))

  pub after_alloc : (actor : Actor) (arena bytes : ℕ) (result : Result Handle Refused)
      → IfOk result (IsGiven actor arena bytes) → IfErr result (IsRefused actor arena bytes)
      → IsHeapSettled old → IfOk result (IsInOrder old new arena (size_of bytes))
      → IsAfter s after worker (event.Alloc actor arena bytes) (alloc_answer result)
  after_alloc actor arena bytes (Ok handle) ok err before order =
      given actor arena bytes handle ok before order
  after_alloc actor arena bytes (Err why) ok err before order =
      not_given actor arena bytes why err

-- A Take of a core, as a step of the machine, and the parts that it leaves.
use Rattle.std.proofs.Common.{◌≡◌, ℕ, ◌==◌, ◌<◌, Bool, true, false, not, cond, List, [], ◌∷◌}
use Rattle.std.proofs.Common.{length, map, slice_get, slice_set, refl, sym, ap, ◌∙◌, subst, find}
use Rattle.std.proofs.Common.{is_some}
use Rattle.std.specs.Prelude.{Option, Some, Contains}
use Rattle.std.specs.List.{position_or_len}
use Rattle.std.proofs.lemmas.List.{map-set, length-map}
use Rattle.std.proofs.lemmas.List.Folds.{find_at}
use Rattle.hg_place.specs.declared.plain.PlainWords.{PlainWords}
use Rattle.hg_place.specs.Plain.{plain_records}
use Rattle.hg_remote.specs.Remote.{Remote, nothing_sent}
use Rattle.hg_remote.specs.Order.{drained}
use Rattle.hg_remote.proofs.Kept.{nothing_right}
use Rattle.hg_segment.specs.Kept.{Kept, class_at}
use Rattle.hg_segment.specs.Settled.{IsSettled}
use Rattle.hg_segment.specs.Parted.{plain_number}
use Rattle.hg_heap.specs.Held.{Held, is_of, is_held, segment_in}
use Rattle.hg_heap.specs.Taking.{Takes}
use Rattle.hg_heap.proofs.Founds.{Contains-get, passes}
use Rattle.hg_heap.proofs.Options.{some_of}
use Rattle.hg_machine.specs.First.{first_of}
use Rattle.hg_machine.specs.Policy.{arena_of}
use Rattle.hg_machine.specs.Refusal.{refusal}
use Rattle.hg_machine.specs.SoundPolicy.{IsSoundPolicy}
use Rattle.hg_machine.specs.Steps.{Step}
use Rattle.hg_machine.proofs.Answered.{of_some}
use Rattle.hg_agreement.specs.Holdings.{Holding, has}
use Rattle.hg_agreement.specs.Parts.{Parts, plain_from, heap_at, remote_at, record_by, state_of}
use Rattle.hg_agreement.specs.Parts.{holdings}
use Rattle.hg_agreement.specs.PlainPut.{with_plain}
use Rattle.hg_agreement.specs.TakenIn.{remote_places, taken_in, IsTakenIn}
use Rattle.hg_agreement.proofs.Bridge.{holds_had}
use Rattle.hg_agreement.proofs.CoreSteps.{take_is_step}
use Rattle.hg_parts.specs.Rights.{IsSegmentRight, remote_from}
use Rattle.hg_parts.specs.Tidy.{IsTidy}
use Rattle.hg_parts.specs.Remotes.{with_remote}
use Rattle.hg_parts.proofs.Sound.{tidy_sound}
use Rattle.hg_parts.proofs.Sorted.{tidy_sorted}
use Rattle.hg_parts.proofs.SpotPuts.{spot_swap}
use Rattle.hg_parts.proofs.Remotes.{taken_in_tidy}
use Rattle.hg_parts.proofs.Links.{settled_right}
use Rattle.hg_events.specs.Core.{Core, parts_of, heap_of}
use Rattle.hg_events.specs.Take.{remote_of, with_taken, TakingIsTake, NoTakeIsTake, plain_shows}
use Rattle.hg_events.specs.Take.{plain_steps}
use Rattle.hg_events.proofs.TakesHome.{HaveCome, all_come}
use Rattle.hg_events.proofs.StandsAlone.{still_alone}
use Rattle.hg_events.proofs.CoreHeaps.{requeued_tidy, heap_is, spot, one_right, alone}
use Rattle.hg_events.proofs.SentParted.{order, sent_parted, as_many, listed_is}
use Rattle.hg_machine.specs.declared.Event.TheVariants as event
use Rattle.hg_machine.specs.declared.Answer.TheVariants as answer

-- a segment of a worker's heap
module _ (core : Core) (worker : ℕ) (t : IsTidy (parts_of core))
    (below : worker < length core.heaps) (at : ℕ) (one : Kept PlainWords)
    (there : slice_get (heap_of core worker).segments at ≡ Some one) where
  abbrev n : ℕ
  n = plain_number one.slots

  abbrev list : Remote
  list = remote_of core n

  -- where all that was sent has come home
  module _ (heap : Held PlainWords) (count : ℕ)
      (settled : (k : Kept PlainWords) → Contains heap.segments k → IsSettled plain_records k)
      (come : HaveCome (drained list) at one (heap_of core worker) heap count) where
    taken : IsTakenIn (parts_of core) worker at (plain_from one) (plain_from come.now)
    taken = record {
      swap =
          spot_swap (parts_of core) worker at (plain_from one) (plain_from come.now) t
          (spot core worker t below at one there) come.home.number;
      records = λ place low. come.home.records place low
          ∙ ap (λ b. taken_in b (record_by (Some (plain_from one)) place))
          (listed_is core worker t below at one there place);
      classes = λ page low. ap (λ cs. class_at cs page) come.home.fixed.classes;
    }

    now_right : IsSegmentRight core.policy (plain_from come.now)
    now_right =
        let was = one_right core worker t below at one there in
        settled_right core.policy come.now
        (ap (arena_of core.policy) come.home.number ∙ was.arena
        ∙ ap Some (sym come.home.fixed.arena))
        (come.home.fixed.greatest ∙ was.greatest)
        (settled come.now (subst (λ ks. Contains ks come.now) (sym come.swap)
        (Contains-get (slice_set (heap_of core worker).segments at come.now) at come.now
        (still_alone (heap_of core worker).segments at one come.now
        (alone core worker t below at one there) come.home.number).there)))

    abbrev after : Parts
    after =
        with_remote (with_plain (parts_of core) worker at (plain_from come.now))
        n nothing_sent

    after_tidy : IsTidy after
    after_tidy =
        taken_in_tidy (parts_of core) worker at (plain_from one) (plain_from come.now) nothing_sent
        t taken now_right nothing_right refl

    abbrev queues : List (List (List ℕ))
    queues = map (λ held. held.queues) (slice_set core.heaps worker heap)

    new_is : parts_of (with_taken core worker heap n)
        ≡ record after { queues = queues }
    new_is =
        let parts = parts_of core in
        let in_segments : map plain_from heap.segments
        ≡ slice_set (heap_at parts worker) at (plain_from come.now) =
        ap (map plain_from) come.swap
        ∙ map-set plain_from (heap_of core worker).segments at come.now
        ∙ ap (λ h. slice_set h at (plain_from come.now)) (sym (heap_is core worker below)) in
        ap (λ hs. record parts {
          heaps = hs;
          remotes =
              map remote_from (slice_set core.remotes n nothing_sent);
          queues = queues;
        })
        (map-set (λ held. map plain_from held.segments) core.heaps worker heap
        ∙ ap (slice_set parts.heaps worker) in_segments)
        ∙ ap (λ rs. record after { remotes = rs; queues = queues })
        (map-set remote_from core.remotes n nothing_sent)

    new_tidy : IsTidy (parts_of (with_taken core worker heap n))
    new_tidy = subst IsTidy (sym new_is) (requeued_tidy queues after_tidy)

    step : IsSoundPolicy core.policy
        → Step (state_of (parts_of core)) worker (event.Take n)
        (answer.Taken count)
        (state_of (parts_of (with_taken core worker heap n)))
    step policy =
        let parts = parts_of core in
        subst (λ k. Step (state_of parts) worker (event.Take n)
        (answer.Taken k)
        (state_of (parts_of (with_taken core worker heap n))))
        (sym (come.all ∙ as_many core worker t below at one there))
        (subst (λ p. Step (state_of parts) worker (event.Take n)
        (answer.Taken (length (remote_places (remote_at parts n))))
        (state_of p)) (sym new_is)
        (take_is_step parts worker at (plain_from one) (plain_from come.now) after.remotes
        (tidy_sorted parts t) (tidy_sound parts policy t).1 taken))

pub taking_is_take : TakingIsTake
taking_is_take core worker segment heap count policy t is =
    let segments = (heap_of core worker).segments in
    let at = position_or_len (is_of plain_number segment) segments in
    let some = some_of (segment_in plain_number segments segment) is.held in
    let one = some.0 in
    let there : slice_get segments at ≡ Some one =
    sym (find_at (is_of plain_number segment) segments) ∙ some.1 in
    let number : plain_number one.slots ≡ segment =
    passes plain_number segments segment one some.1 in
    let come : HaveCome (drained (remote_of core (plain_number one.slots))) at one
    (heap_of core worker) heap count =
    all_come (plain_number one.slots) at count (drained (remote_of core (plain_number one.slots)))
    one (heap_of core worker) heap (alone core worker t is.worker_below at one there) refl
    (order core worker t is.worker_below at one there).once
    (sent_parted core worker t is.worker_below at one there)
    (subst (λ n. Takes plain_number plain_records plain_shows plain_steps n
    (drained (remote_of core n)) (heap_of core worker) heap count) (sym number) is.taken) in
    subst (λ n. Step (state_of (parts_of core)) worker (event.Take n) (answer.Taken count)
    (state_of (parts_of (with_taken core worker heap n)))
    × IsTidy (parts_of (with_taken core worker heap n))) number (
      step core worker t is.worker_below at one there heap count is.settled come policy,
      new_tidy core worker t is.worker_below at one there heap count is.settled come,
    )

-- where the worker doesn't hold it

has_step : (b : Bool) (h : Holding) (k : Kept PlainWords) (r : Option Holding)
    (q : Option (Kept PlainWords)) → is_some r ≡ is_some q → is_some (cond b (Some h) r)
    ≡ is_some (cond b (Some k) q)
has_step true h k r q e = refl
has_step false h k r q e = e

has_held : (ks : List (Kept PlainWords)) (segment : ℕ)
    → has (holdings (map plain_from ks)) segment ≡ is_held plain_number ks segment
has_held [] segment = refl
has_held (k ∷ ks) segment =
    has_step (plain_number k.slots == segment) (plain_from k).holding k
    (find (λ h. h.number == segment) (holdings (map plain_from ks)))
    (segment_in plain_number ks segment) (has_held ks segment)

pub no_take_is_take : NoTakeIsTake
no_take_is_take core worker segment t below none =
    let parts = parts_of core in
    let s = state_of parts in
    let heaps : worker < length parts.heaps =
    subst (λ n. worker < n)
    (sym (length-map core.heaps (λ held. map plain_from held.segments))) below in
    of_some (refusal s worker (event.Take segment)) _
    (λ refused. (answer.NotHeld ≡ refused) × (s ≡ s)) answer.NotHeld
    (ap (λ b. first_of ((not b, answer.NotHeld) ∷ []))
    (holds_had parts worker (tidy_sorted parts t) heaps segment
    ∙ ap (λ h. has (holdings h) segment) (heap_is core worker below)
    ∙ has_held (heap_of core worker).segments segment
    ∙ none))
    (refl, refl)

-- A Take of a core, in lists and queues.
use Rattle.std.proofs.Common.{◌≡◌, ℕ, ◌*◌, ◌==◌, ◌<◌, Bool, true, false, cond, not, List, [], ◌∷◌}
use Rattle.std.proofs.Common.{length, map, slice_get, slice_set, refl, sym, ap, ◌∙◌, subst}
use Rattle.std.proofs.Common.{count_by}
use Rattle.std.specs.Prelude.{Some, MatchOption}
use Rattle.std.specs.List.{position_or_len}
use Rattle.std.proofs.lemmas.List.{map-set, length-set}
use Rattle.std.proofs.lemmas.Grind.{get_or-set_at}
use Rattle.std.proofs.lemmas.Option.{slice_get-get_or, slice_get_within}
use Rattle.std.proofs.lemmas.List.Folds.{find_at}
use Rattle.hg_place.specs.declared.plain.PlainWords.{PlainWords}
use Rattle.hg_place.specs.Places.{segment_of_page}
use Rattle.hg_remote.specs.Remote.{nothing_sent}
use Rattle.hg_remote.specs.Order.{drained}
use Rattle.hg_segment.specs.Parted.{plain_number}
use Rattle.hg_heap.specs.Held.{Held, is_of, segment_in}
use Rattle.hg_heap.proofs.Founds.{Contains-get, Found, passes}
use Rattle.hg_heap.proofs.Options.{some_of}
use Rattle.hg_machine.specs.declared.Answer.{Answer}
use Rattle.hg_machine.specs.First.{first_of}
use Rattle.hg_machine.specs.Lists.{Lists, list_at}
use Rattle.hg_machine.specs.SoundPolicy.{IsSoundPolicy}
use Rattle.hg_machine.specs.State.{State, places_in, pages_in}
use Rattle.hg_machine.specs.Steps.{Step}
use Rattle.hg_machine.specs.Sweeps.{is_sent_to}
use Rattle.hg_machine.specs.Holders.{holds}
use Rattle.hg_agreement.specs.Parts.{Plain, Parts, plain_from, lists_of, kept_of, state_of}
use Rattle.hg_agreement.specs.Parts.{places_from, Remote as PartsRemote}
use Rattle.hg_agreement.proofs.Listed.{sent_are_listed}
use Rattle.hg_parts.specs.Rights.{remote_from, IsSegmentRight}
use Rattle.hg_parts.specs.Spots.{Spot, in_heap, segment_at, with_segment}
use Rattle.hg_parts.specs.Tidy.{IsTidy}
use Rattle.hg_parts.proofs.Sound.{tidy_sound}
use Rattle.hg_choice.specs.Choice.{queues_of}
use Rattle.hg_choice.specs.ListsAfter.{all_home, taken, remote_of}
use Rattle.hg_choice.specs.QueuesAfter.{all_placed}
use Rattle.hg_events.specs.Core.{Core, parts_of, heap_of}
use Rattle.hg_events.specs.Take.{with_taken, IsTaking, remote_of as remote_in}
use Rattle.hg_events.proofs.CoreHeaps.{spot, one_right, inside}
use Rattle.hg_events.proofs.Taking.{taking_is_take}
use Rattle.hg_events.proofs.Told.{held_once}
use Rattle.hg_chosen.specs.Taken.{TakeIsChosen}
use Rattle.hg_chosen.proofs.Comes.{K, HaveComeIn, all_in, as_many_lists}
use Rattle.hg_chosen.proofs.CoreQueues.{queues_seen, queues_set}
use Rattle.hg_chosen.proofs.Drained.{drained_below, drained_length, drained_told}
use Rattle.hg_chosen.proofs.ListedSwaps.{alike, same_lists}
use Rattle.hg_chosen.proofs.NothingSent.{home_threads, home_delayed, emptied, thread_lists}
use Rattle.hg_chosen.proofs.NothingSent.{delayed_lists}
use Rattle.hg_chosen.proofs.Same.{heap_set}
use Rattle.hg_chosen.proofs.TakenLists.{IsAfter, lists_with, lists_all}
use Rattle.hg_machine.specs.declared.Answer.TheVariants as answer
use Rattle.hg_machine.specs.declared.Event.TheVariants as event

-- what is answered where the worker holds the segment
held_count : (held : Bool) (count all : ℕ) (P : Type 0) (Q : Answer → Type 0)
    → MatchOption (first_of ((not held, answer.NotHeld) ∷ []))
    ((answer.Taken count ≡ answer.Taken all) × P)
    (λ refused. (answer.Taken count ≡ refused) × Q refused)
    → count ≡ all
held_count true count all P Q m = let e = m.0 in cc
held_count false count all P Q m = absurd (let e = m.0 in cc)

-- what stands where it was put
get_set : (xs : List K) (at : ℕ) (one now : K) → slice_get xs at ≡ Some one
    → slice_get (slice_set xs at now) at ≡ Some now
get_set xs at one now there =
    let below = slice_get_within xs at one there in
    slice_get-get_or (slice_set xs at now) at now
    (subst (λ k. at < k) (sym (length-set xs at now)) below)
    ∙ ap Some (get_or-set_at xs at at now now refl below)

module _ (core : Core) (worker : ℕ) (heap : Held PlainWords) (count : ℕ)
    (policy : IsSoundPolicy core.policy) (t : IsTidy (parts_of core)) (at : ℕ) (one : K)
    (there : slice_get (heap_of core worker).segments at ≡ Some one)
    (first : at ≡ position_or_len (is_of plain_number (plain_number one.slots))
    (heap_of core worker).segments)
    (is : IsTaking core worker (plain_number one.slots) heap count) where
  abbrev n : ℕ
  n = plain_number one.slots

  abbrev parts : Parts
  parts = parts_of core

  abbrev s : State
  s = state_of parts

  abbrev places : List ℕ
  places = drained (remote_in core n)

  abbrev its : Spot
  its = in_heap worker at

  low : n < length core.policy.segments
  low = inside core worker t is.worker_below at one there

  pub step : Step s worker (event.Take n) (answer.Taken count)
      (state_of (parts_of (with_taken core worker heap n)))
  step = (taking_is_take core worker n heap count policy t is).0

  -- all come home
  all : count ≡ length places
  all =
      held_count (holds s worker n) count (count_by (is_sent_to s n) (places_in s)) _ _ step
      ∙ sent_are_listed parts n low (tidy_sound parts policy t).1
      ∙ sym (drained_length core n t low)

  found : Found plain_number (heap_of core worker).segments n at one
  found = record { at = there; first = first }

  come : HaveComeIn n at places one (heap_of core worker) heap
  come =
      all_in n at places one (heap_of core worker) heap count (held_once core t worker) found
      is.taken all

  abbrev last : K
  last = come.last

  spot_there : segment_at parts its ≡ Some (plain_from one)
  spot_there = spot core worker t is.worker_below at one there

  right : IsSegmentRight core.policy (plain_from one)
  right = one_right core worker t is.worker_below at one there

  -- each segment has its lists
  last_in : slice_get heap.segments at ≡ Some last
  last_in =
      ap (λ ks. slice_get ks at) come.swap
      ∙ get_set (heap_of core worker).segments at one last there

  last_settled : length last.lists ≡ 16
  last_settled = (is.settled last (Contains-get heap.segments at last last_in)).pages

  one_after : IsAfter one one
  one_after = record {
    number = refl;
    arena = refl;
    greatest = refl;
    classes = refl;
    pages =
        sym (as_many_lists n places one last (heap_of core worker).queues heap.queues come.comes)
        ∙ last_settled;
    generations = λ at. refl;
  }

  unchanged : lists_with parts its one core.hands t spot_there right one ≡ lists_of parts
  unchanged =
      let w = with_segment parts its (plain_from one) core.hands in
      alike parts w.heaps w.orphans w.fresh core.hands parts.queues
      (same_lists parts its (plain_from one) core.hands t spot_there (plain_from one) refl
      (λ p inside. refl))

  both : (lists_with parts its one core.hands t spot_there right last
      ≡ all_home s (lists_with parts its one core.hands t spot_there right one)
      (places_from (n * 8192) places))
      × (heap.queues
      ≡ all_placed s (lists_with parts its one core.hands t spot_there right one)
      (places_from (n * 8192) places) (heap_of core worker).queues)
  both =
      lists_all parts its one core.hands t spot_there right places one last
      (heap_of core worker).queues heap.queues (drained_below core n t low) one_after come.comes

  abbrev sent : List ℕ
  sent = drained (remote_of (lists_of parts) n)

  last_lists : lists_with parts its one core.hands t spot_there right last
      ≡ all_home s (lists_of parts) sent
  last_lists =
      both.0
      ∙ ap (λ l. all_home s l (places_from (n * 8192) places)) unchanged
      ∙ ap (all_home s (lists_of parts)) (sym (drained_told core n t low))

  pub heap_queues : heap.queues
      ≡ all_placed s (lists_of parts) sent (queues_of (kept_of parts) worker)
  heap_queues =
      both.1
      ∙ ap (λ l. all_placed s l (places_from (n * 8192) places) (heap_of core worker).queues)
      unchanged
      ∙ ap (λ xs. all_placed s (lists_of parts) xs (heap_of core worker).queues)
      (sym (drained_told core n t low))
      ∙ ap (all_placed s (lists_of parts) sent) (sym (queues_seen core worker))

  -- the lists of the core afterwards
  abbrev new_with : List (List Plain) → List PartsRemote → Parts
  new_with heaps remotes = record parts { heaps = heaps; remotes = remotes }

  new_is : lists_of (parts_of (with_taken core worker heap n))
      ≡ lists_of (new_with (with_segment parts its (plain_from last) core.hands).heaps
      (slice_set parts.remotes n (remote_from nothing_sent)))
  new_is =
      ap (λ (hs : List (List Plain)). lists_of
      (new_with hs (map remote_from (slice_set core.remotes n nothing_sent))))
      (heap_set core worker at heap last is.worker_below come.swap)
      ∙ ap (λ (rs : List PartsRemote). lists_of
      (new_with (with_segment parts its (plain_from last) core.hands).heaps rs))
      (map-set remote_from core.remotes n nothing_sent)

  -- of lists these are the free ones, and nothing is sent to the segment
  abbrev with_sent : Lists → List (List ℕ) → List (List ℕ) → Lists
  with_sent l threads delayed = record l { thread_free = threads; delayed = delayed }

  sent_is : with_sent (all_home s (lists_of parts) sent)
      (lists_of (emptied parts n low t.segments.remotes)).thread_free
      (lists_of (emptied parts n low t.segments.remotes)).delayed
      ≡ taken s (lists_of parts) n
  sent_is =
      let home = all_home s (lists_of parts) sent in
      ap (λ xs. with_sent home xs (lists_of (emptied parts n low t.segments.remotes)).delayed)
      (thread_lists parts n low t.segments.remotes
      ∙ ap (λ ts. map (λ page. cond (segment_of_page page == n) [] (list_at ts page))
      (pages_in s)) (sym (home_threads s (lists_of parts) sent)))
      ∙ ap (with_sent home
      (map (λ page. cond (segment_of_page page == n) [] (list_at home.thread_free page))
      (pages_in s)))
      (delayed_lists parts n low t.segments.remotes
      ∙ ap (λ ds. slice_set ds n []) (sym (home_delayed s (lists_of parts) sent)))

  pub lists : lists_of (parts_of (with_taken core worker heap n)) ≡ taken s (lists_of parts) n
  lists =
      new_is
      ∙ ap (λ l. with_sent l (lists_of (emptied parts n low t.segments.remotes)).thread_free
      (lists_of (emptied parts n low t.segments.remotes)).delayed) last_lists
      ∙ sent_is

pub take_is_chosen : TakeIsChosen
take_is_chosen core worker segment heap count policy t is =
    let segments = (heap_of core worker).segments in
    let at = position_or_len (is_of plain_number segment) segments in
    let some = some_of (segment_in plain_number segments segment) is.held in
    let one = some.0 in
    let there : slice_get segments at ≡ Some one =
    sym (find_at (is_of plain_number segment) segments) ∙ some.1 in
    let number : plain_number one.slots ≡ segment =
    passes plain_number segments segment one some.1 in
    let first : at ≡ position_or_len (is_of plain_number (plain_number one.slots)) segments =
    ap (λ k. position_or_len (is_of plain_number k) segments) (sym number) in
    let own : IsTaking core worker (plain_number one.slots) heap count =
    subst (λ k. IsTaking core worker k heap count) (sym number) is in
    record {
      step = (taking_is_take core worker segment heap count policy t is).0;
      chosen = tt;
      lists =
          subst (λ k. lists_of (parts_of (with_taken core worker heap k))
          ≡ taken (state_of (parts_of core)) (lists_of (parts_of core)) k) number
          (lists core worker heap count policy t at one there first own);
      queues =
          queues_set core worker heap _
          (subst (λ k. heap.queues
          ≡ all_placed (state_of (parts_of core)) (lists_of (parts_of core))
          (drained (remote_of (lists_of (parts_of core)) k))
          (queues_of (kept_of (parts_of core)) worker)) number
          (heap_queues core worker heap count policy t at one there first own));
    }

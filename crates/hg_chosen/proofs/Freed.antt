-- A Free of a block that the worker holds, in lists and queues.
use Rattle.std.proofs.Common.{◌≡◌, ◌≢◌, ℕ, ◌+◌, ◌*◌, ◌-◌, ◌%◌, ◌==◌, ◌<◌, Bool, true, false, List}
use Rattle.std.proofs.Common.{[], ◌∷◌, refl, sym, ap, ◌∙◌, arith}
use Rattle.std.specs.Prelude.{Option, Some, None, MatchOption, option_map}
use Rattle.hg_place.specs.declared.Actor.{Actor}
use Rattle.hg_place.specs.declared.Handle.{Handle}
use Rattle.hg_place.specs.declared.plain.PlainWords.{PlainWords}
use Rattle.hg_place.specs.Lives.{IsLiveWord}
use Rattle.hg_place.specs.Places.{number_of, page_number, page_of, segment_of_page}
use Rattle.hg_size.specs.Sizes.{number_of_size}
use Rattle.hg_size.specs.SizeLaws.{key_of}
use Rattle.hg_segment.specs.Kept.{Kept, lists_at, returned, class_at as class_in}
use Rattle.hg_segment.specs.Parted.{plain_number}
use Rattle.hg_heap.specs.Held.{Held, segment_in, greatest_in, greatest_by, has_place}
use Rattle.hg_heap.specs.Held.{lists_on as lists_held}
use Rattle.hg_heap.specs.Queues.{key_by, key_on as key_held}
use Rattle.hg_heap.specs.Requeued.{requeued}
use Rattle.hg_machine.specs.declared.Answer.{Answer}
use Rattle.hg_machine.specs.declared.Rule.{Rule}
use Rattle.hg_machine.specs.Denial.{denial}
use Rattle.hg_machine.specs.Lists.{Lists}
use Rattle.hg_machine.specs.Refusal.{refusal, denial_or}
use Rattle.hg_machine.specs.SoundPolicy.{IsSoundPolicy}
use Rattle.hg_machine.specs.State.{State, record_at}
use Rattle.hg_machine.specs.Steps.{Step}
use Rattle.hg_machine.proofs.Allowed.{allowed, no_denial}
use Rattle.hg_agreement.specs.Parts.{Parts, plain_from, lists_of, kept_of, state_of}
use Rattle.hg_parts.specs.Rights.{IsSegmentRight}
use Rattle.hg_parts.specs.Spots.{Spot, in_heap, segment_at, with_segment}
use Rattle.hg_parts.specs.Tidy.{IsTidy}
use Rattle.hg_choice.specs.Choice.{queues_of}
use Rattle.hg_choice.specs.ListsAfter.{came_home}
use Rattle.hg_choice.specs.QueuesAfter.{key_on, placed}
use Rattle.hg_events.specs.Core.{Core, parts_of, heap_of}
use Rattle.hg_events.specs.Own.{with_heap, IsOwnCall}
use Rattle.hg_events.proofs.CoreHeaps.{one_right}
use Rattle.hg_events.proofs.OwnLives.{free_is_served}
use Rattle.hg_chosen.specs.Freed.{IsFreed, FreeIsChosen}
use Rattle.hg_chosen.proofs.CameHome.{home_lists, home_placed, key_told}
use Rattle.hg_chosen.proofs.CoreQueues.{queues_seen, queues_set}
use Rattle.hg_chosen.proofs.ListedSwaps.{alike, same_lists}
use Rattle.hg_chosen.proofs.Same.{one_told, number_kept, lists_one, lists_now, lists_new, there}
use Rattle.hg_place.specs.declared.Right.TheVariants as right
use Rattle.hg_machine.specs.declared.Answer.TheVariants as answer
use Rattle.hg_machine.specs.declared.Event.TheVariants as event

-- an answer that no reason to refuse gives

first_busy : (b : Bool) → (o : Option Rule) (a : Answer)
    → denial_or o ((b, answer.Busy) ∷ []) ≡ Some a → answer.Done ≡ a → ⊥
first_busy b (Some rule) a e done = absurd (cc)
first_busy true None a e done = absurd (cc)
first_busy false None a e done = absurd (cc)

-- what is answered Done isn't refused
undenied_by : (r : Option Answer) (P : Type 0) (Q : Answer → Type 0)
    → MatchOption r P (λ refused. (answer.Done ≡ refused) × Q refused)
    → ((a : Answer) → r ≡ Some a → answer.Done ≡ a → ⊥) → r ≡ None
undenied_by None P Q m never = refl
undenied_by (Some a) P Q m never = absurd (never a refl m.0)

module _ (core : Core) (worker : ℕ) (actor : Actor) (handle : Handle) (word : ℕ)
    (heap : Held PlainWords) (policy : IsSoundPolicy core.policy) (t : IsTidy (parts_of core))
    (lives : IsLiveWord word)
    (own :
    IsOwnCall core worker handle.place word (word - 1) (event.Free actor handle) answer.Done heap)
    (freed : IsFreed handle (heap_of core worker) heap) where
  abbrev parts : Parts
  parts = parts_of core

  abbrev s : State
  s = state_of parts

  abbrev old : List (Kept PlainWords)
  old = (heap_of core worker).segments

  abbrev one : Kept PlainWords
  one = own.stepped.before

  abbrev now : Kept PlainWords
  now = own.stepped.after

  abbrev n : ℕ
  n = plain_number one.slots

  abbrev its : Spot
  its = in_heap worker own.stepped.found

  abbrev page : ℕ
  page = handle.place.page

  abbrev index : ℕ
  index = handle.place.index

  pub step : Step s worker (event.Free actor handle) answer.Done
      (state_of (parts_of (with_heap core worker heap)))
  step = (free_is_served core worker actor handle word heap lives policy t own).0

  -- nothing refuses it, so the place has the handle's generation
  unrefused : refusal s worker (event.Free actor handle) ≡ None
  unrefused =
      undenied_by (refusal s worker (event.Free actor handle)) _ _ step
      (λ a e done. first_busy _ (denial s actor.0 right.Free handle.place handle.generation) a e
      done)

  generation_is : (record_at s (number_of handle.place)).generation ≡ handle.generation
  generation_is =
      (allowed s actor.0 right.Free handle.place handle.generation
      (no_denial _ _ unrefused).0).generation

  is_right : IsSegmentRight core.policy (plain_from one)
  is_right = one_right core worker t own.below own.stepped.found one own.stepped.at

  abbrev worn : Bool
  worn = handle.generation == greatest_in plain_number old handle.place.segment

  greatest_is : greatest_in plain_number old handle.place.segment ≡ core.policy.max_generation
  greatest_is =
      ap (greatest_in plain_number old) (sym own.stepped.segment)
      ∙ ap (λ (o : Option (Kept PlainWords)). greatest_by plain_number o)
      (one_told policy t own)
      ∙ is_right.greatest

  place_is : (n * 16 + page) * 512 + index ≡ number_of handle.place
  place_is = ap (λ k. (k * 16 + page) * 512 + index) own.stepped.segment

  worn_is : ((record_at s ((n * 16 + page) * 512 + index)).generation == s.policy.max_generation)
      ≡ worn
  worn_is =
      ap (λ p. (record_at s p).generation == core.policy.max_generation) place_is
      ∙ ap (λ g. g == core.policy.max_generation) generation_is
      ∙ ap (λ g. handle.generation == g) (sym greatest_is)

  one_has : (p : ℕ) → p < 16
      → lists_held plain_number old (n * 16 + p) ≡ lists_at one.lists p
  one_has =
      lists_one policy t own

  now_has : (p : ℕ) → p < 16
      → lists_held plain_number heap.segments (n * 16 + p) ≡ lists_at now.lists p
  now_has =
      lists_now policy t own

  page_is : n * 16 + page ≡ page_number handle.place
  page_is = ap (λ k. k * 16 + page) own.stepped.segment

  abbrev low : page < 16
  low = handle.place.page_below

  abbrev small : index < 512
  small = handle.place.index_below

  home : lists_at now.lists page ≡ returned worn (lists_at one.lists page) index
  home =
      sym (now_has page low)
      ∙ ap (lists_held plain_number heap.segments) page_is
      ∙ freed.lists.returned
      ∙ ap (λ p. returned worn (lists_held plain_number old p) index) (sym page_is)
      ∙ ap (λ l. returned worn l index) (one_has page low)

  keeps : (p : ℕ) → p < 16 → p ≢ page → lists_at now.lists p ≡ lists_at one.lists p
  keeps p inside ne =
      sym (now_has p inside)
      ∙ freed.lists.others (n * 16 + p) (λ e. ne (let f = page_is in omega (arith, e, f)))
      ∙ one_has p inside

  is_there : segment_at parts its ≡ Some (plain_from one)
  is_there =
      there policy t own

  number : plain_number now.slots ≡ n
  number =
      number_kept policy t own

  abbrev with_now : Lists
  with_now = lists_of (with_segment parts its (plain_from now) core.hands)

  -- as the parts are, the lists are those before
  unchanged : lists_of (with_segment parts its (plain_from one) core.hands) ≡ lists_of parts
  unchanged =
      let w = with_segment parts its (plain_from one) core.hands in
      alike parts w.heaps w.orphans w.fresh core.hands parts.queues
      (same_lists parts its (plain_from one) core.hands t is_there (plain_from one) refl
      (λ p inside. refl))

  now_lists : with_now ≡ came_home s (lists_of parts) (number_of handle.place)
  now_lists =
      home_lists parts its (plain_from one) core.hands t is_there (plain_from one)
      (plain_from now) refl number page index low small worn home keeps s worn_is
      ∙ ap (λ l. came_home s l ((n * 16 + page) * 512 + index)) unchanged
      ∙ ap (came_home s (lists_of parts)) place_is

  pub lists : lists_of (parts_of (with_heap core worker heap))
      ≡ came_home s (lists_of parts) (number_of handle.place)
  lists =
      lists_new policy t own
      ∙ now_lists

  -- the page's key
  key_is : key_on s (n * 16 + page) ≡ Some freed.queues.0
  key_is =
      let m : (n * 16 + page) % 16 ≡ page = omega (arith, low) in
      let own_page : segment_of_page (n * 16 + page) ≡ n = omega (arith, low) in
      key_told parts its (plain_from one) core.hands t is_there page low is_right.arena
      ∙ sym
      (ap (key_held plain_number old) (sym page_is)
      ∙ ap (λ k. key_by plain_number (segment_in plain_number old k) ((n * 16 + page) % 16))
      own_page
      ∙ ap (λ (o : Option (Kept PlainWords)). key_by plain_number o ((n * 16 + page) % 16))
      (one_told policy t own)
      ∙ ap (λ p. option_map (λ size. key_of one.arena (number_of_size size))
      (class_in one.classes p)) m)
      ∙ freed.queues.1

  pub heap_queues : heap.queues
      ≡ placed (came_home s (lists_of parts) (number_of handle.place))
      (page_of (number_of handle.place)) (key_on s (page_of (number_of handle.place)))
      (queues_of (kept_of parts) worker)
  heap_queues =
      let held = (heap_of core worker).queues in
      let key = freed.queues.0 in
      freed.queues.2
      ∙ ap (λ p. requeued key p (has_place (lists_held plain_number heap.segments p)) held)
      (sym page_is)
      ∙ ap (λ l. requeued key (n * 16 + page) (has_place l) held) (now_has page low)
      ∙ sym
      (home_placed parts its (plain_from one) core.hands t is_there (plain_from one)
      (plain_from now) refl number page index low small worn home keeps s key held key_is)
      ∙ ap (λ p. placed with_now (page_of p) (key_on s (page_of p)) held) place_is
      ∙ ap (λ l. placed l (page_of (number_of handle.place))
      (key_on s (page_of (number_of handle.place))) held) now_lists
      ∙ ap (placed (came_home s (lists_of parts) (number_of handle.place))
      (page_of (number_of handle.place)) (key_on s (page_of (number_of handle.place))))
      (sym (queues_seen core worker))

pub free_is_chosen : FreeIsChosen
free_is_chosen core worker actor handle word heap policy t lives own freed = record {
  step = step core worker actor handle word heap policy t lives own freed;
  chosen = tt;
  lists = lists core worker actor handle word heap policy t lives own freed;
  queues =
      queues_set core worker heap _
      (heap_queues core worker actor handle word heap policy t lives own freed);
}

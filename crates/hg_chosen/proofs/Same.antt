-- Calls of a worker on its own heap that leave all lists and queues: each is a step with its
-- choices.
use Rattle.std.proofs.Common.{◌≡◌, ℕ, ◌+◌, ◌*◌, ◌%◌, ◌<◌, List, map, slice_set, sym, ap, ◌∙◌, arith}
use Rattle.std.proofs.Common.{length}
use Rattle.std.specs.Prelude.{Some, Option}
use Rattle.std.proofs.lemmas.List.{map-set}
use Rattle.hg_place.specs.declared.Place.{Place}
use Rattle.hg_place.specs.declared.plain.PlainWords.{PlainWords}
use Rattle.hg_place.specs.Places.{segment_of_page}
use Rattle.hg_segment.specs.Kept.{Kept, lists_at}
use Rattle.hg_segment.specs.Parted.{plain_number}
use Rattle.hg_heap.specs.Held.{Held, segment_in, KeepsLists, lists_on as lists_held}
use Rattle.hg_heap.specs.Held.{lists_by as lists_from}
use Rattle.hg_machine.specs.declared.Answer.{Answer}
use Rattle.hg_machine.specs.declared.Event.{Event}
use Rattle.hg_machine.specs.Lists.{Lists}
use Rattle.hg_machine.specs.SoundPolicy.{IsSoundPolicy}
use Rattle.hg_heap.specs.Answers.{row_answer, list_denial}
use Rattle.hg_agreement.specs.Parts.{Plain, Parts, plain_from, lists_of, kept_of}
use Rattle.hg_parts.specs.Spots.{Spot, in_heap, segment_at, with_segment}
use Rattle.hg_parts.specs.Tidy.{IsTidy}
use Rattle.hg_events.specs.Core.{Core, parts_of, heap_of}
use Rattle.hg_events.specs.Own.{with_heap, IsOwnCall}
use Rattle.hg_events.proofs.CoreHeaps.{heap_is, spot}
use Rattle.hg_events.proofs.OwnStepped.{one_in, now_in, number}
use Rattle.hg_events.proofs.OwnSteps.{read_is_step, write_is_step, look_is_step, free_is_denied}
use Rattle.hg_chosen.specs.Same.{ReadIsChosen, WriteIsChosen, LookIsChosen, DeniedFreeIsChosen}
use Rattle.hg_chosen.proofs.CoreQueues.{queues_same}
use Rattle.hg_chosen.proofs.ListedSwaps.{alike, same_lists}
use Rattle.hg_machine.specs.declared.Answer.TheVariants as answer
use Rattle.hg_machine.specs.declared.Event.TheVariants as event

-- the heap of a core with another of its segments at an index
pub heap_set : (core : Core) (worker found : ℕ) (heap : Held PlainWords) (now : Kept PlainWords)
    → worker < length core.heaps
    → heap.segments ≡ slice_set (heap_of core worker).segments found now
    → (parts_of (with_heap core worker heap)).heaps
    ≡ (with_segment (parts_of core) (in_heap worker found) (plain_from now) core.hands).heaps
heap_set core worker found heap now below e =
    map-set (λ (held : Held PlainWords). map plain_from held.segments) core.heaps worker heap
    ∙ ap (slice_set (parts_of core).heaps worker)
    (ap (map plain_from) e
    ∙ map-set plain_from (heap_of core worker).segments found now
    ∙ ap (λ (h : List Plain). slice_set h found (plain_from now))
    (sym (heap_is core worker below)))

module _ {core : Core} {worker : ℕ} {place : Place} {word left : ℕ} {e : Event} {a : Answer}
    {heap : Held PlainWords} (policy : IsSoundPolicy core.policy) (t : IsTidy (parts_of core))
    (own : IsOwnCall core worker place word left e a heap) where
  abbrev parts : Parts
  parts = parts_of core

  abbrev old : List (Kept PlainWords)
  old = (heap_of core worker).segments

  abbrev one : Kept PlainWords
  one = own.stepped.before

  abbrev now : Kept PlainWords
  now = own.stepped.after

  abbrev n : ℕ
  n = plain_number one.slots

  abbrev its : Spot
  its = in_heap worker own.stepped.found

  pub one_told : segment_in plain_number old n ≡ Some one
  one_told = one_in policy t own

  pub number_kept : plain_number now.slots ≡ n
  number_kept = number policy t own

  pub now_told : segment_in plain_number heap.segments n ≡ Some now
  now_told =
      ap (segment_in plain_number heap.segments) (sym number_kept)
      ∙ now_in policy t own

  -- the lists of a page of the segment, before and after
  pub lists_one : (page : ℕ) → page < 16
      → lists_held plain_number old (n * 16 + page) ≡ lists_at one.lists page
  lists_one page low =
      let s : segment_of_page (n * 16 + page) ≡ n = omega (arith, low) in
      let m : (n * 16 + page) % 16 ≡ page = omega (arith, low) in
      ap (λ k. lists_from plain_number (segment_in plain_number old k) ((n * 16 + page) % 16)) s
      ∙ ap (λ (o : Option (Kept PlainWords)). lists_from plain_number o ((n * 16 + page) % 16))
      one_told
      ∙ ap (lists_at one.lists) m

  pub lists_now : (page : ℕ) → page < 16
      → lists_held plain_number heap.segments (n * 16 + page) ≡ lists_at now.lists page
  lists_now page low =
      let s : segment_of_page (n * 16 + page) ≡ n = omega (arith, low) in
      let m : (n * 16 + page) % 16 ≡ page = omega (arith, low) in
      ap (λ k. lists_from plain_number (segment_in plain_number heap.segments k)
      ((n * 16 + page) % 16)) s
      ∙ ap (λ (o : Option (Kept PlainWords)). lists_from plain_number o ((n * 16 + page) % 16))
      now_told
      ∙ ap (lists_at now.lists) m

  -- the lists of the core afterwards are those with this segment in its place
  pub lists_new : lists_of (parts_of (with_heap core worker heap))
      ≡ lists_of (with_segment parts its (plain_from now) core.hands)
  lists_new =
      ap (λ (hs : List (List Plain)). let x : Lists = lists_of (record parts { heaps = hs }) in x)
      (heap_set core worker own.stepped.found heap now own.below own.stepped.now)

  pub there : segment_at parts its ≡ Some (plain_from one)
  there = spot core worker t own.below own.stepped.found one own.stepped.at

  -- where each page has the lists that it had, they are those before
  pub lists_same : KeepsLists plain_number old heap.segments
      → lists_of (parts_of (with_heap core worker heap)) ≡ lists_of parts
  lists_same keeps =
      let w = with_segment parts its (plain_from now) core.hands in
      lists_new
      ∙ alike parts w.heaps w.orphans w.fresh core.hands parts.queues
      (same_lists parts its (plain_from one) core.hands t there (plain_from now) number_kept
      (λ page low. sym (lists_now page low) ∙ keeps (n * 16 + page) ∙ lists_one page low))

  pub queues_kept : heap.queues ≡ (heap_of core worker).queues
      → (kept_of (parts_of (with_heap core worker heap))).queues ≡ (kept_of parts).queues
  queues_kept e = queues_same core worker heap e

pub read_is_chosen : ReadIsChosen
read_is_chosen core worker actor handle index word result heap policy t own same = record {
  step = (read_is_step core worker actor handle index word result heap policy t own).0;
  chosen = tt;
  lists = lists_same policy t own same.lists;
  queues = queues_same core worker heap same.queues;
}

pub write_is_chosen : WriteIsChosen
write_is_chosen core worker actor handle index value word result heap policy t own same = record {
  step = (write_is_step core worker actor handle index value word result heap policy t own).0;
  chosen = tt;
  lists = lists_same policy t own same.lists;
  queues = queues_same core worker heap same.queues;
}

pub look_is_chosen : LookIsChosen
look_is_chosen core worker actor place word row heap policy t own same = record {
  step = (look_is_step core worker actor place word row heap policy t own).0;
  chosen = tt;
  lists = lists_same policy t own same.lists;
  queues = queues_same core worker heap same.queues;
}

pub denied_free_is_chosen : DeniedFreeIsChosen
denied_free_is_chosen core worker actor handle word rule heap policy t own same = record {
  step = (free_is_denied core worker actor handle word rule heap policy t own).0;
  chosen = tt;
  lists = lists_same policy t own same.lists;
  queues = queues_same core worker heap same.queues;
}

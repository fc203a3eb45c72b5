-- The choices of an Alloc that gives a block.
use Rattle.std.proofs.Common.{◌≡◌, ℕ, ◌<◌, set, Some, sym, ap, subst, ◌∙◌}
use Rattle.hg_place.specs.declared.Actor.{Actor}
use Rattle.hg_place.specs.declared.Handle.{Handle}
use Rattle.hg_place.specs.declared.plain.PlainWords.{PlainWords}
use Rattle.hg_place.specs.Places.{page_number, segment_of_page}
use Rattle.hg_size.specs.Sizes.{number_of_size}
use Rattle.hg_size.specs.SizeLaws.{key_of}
use Rattle.hg_segment.specs.Parted.{plain_number}
use Rattle.std.proofs.lemmas.List.{length-set}
use Rattle.hg_machine.specs.Request.{size_of}
use Rattle.hg_heap.specs.Held.{Held, segment_in, has_place, lists_on as lists_in}
use Rattle.hg_heap.specs.Requeued.{requeued}
use Rattle.hg_machine.specs.Lists.{Lists}
use Rattle.hg_agreement.specs.Parts.{state_of, lists_of}
use Rattle.hg_choice.specs.PageLists.{lists_on}
use Rattle.hg_choice.specs.Choice.{queues_of}
use Rattle.hg_choice.specs.ListsAfter.{given_from}
use Rattle.hg_choice.specs.QueuesAfter.{placed}
use Rattle.hg_events.specs.Core.{Core, parts_of}
use Rattle.hg_events.specs.Own.{with_heap}
use Rattle.hg_chosen.specs.Given.{AllocIsChosen}
use Rattle.hg_chosen.proofs.ChoiceTold.{choice_is_told}
use Rattle.hg_chosen.proofs.HeapTold.{queues_told}
use Rattle.hg_chosen.proofs.HeapLists.{numbered, heap_now, some_is}
use Rattle.hg_chosen.proofs.Numbered.{has_numbered, numbered_told}
use Rattle.hg_chosen.proofs.HeldSame.{seen, queues_put}
use Rattle.hg_chosen.proofs.AllocPage.{IsAlloc, sized, held, here}
use Rattle.hg_chosen.proofs.AllocLists.{lists_given}

module _ {core : Core} {worker : ℕ} {actor : Actor} {arena bytes : ℕ} {handle : Handle}
    {heap : Held PlainWords} (made : IsAlloc core worker actor arena bytes handle heap) where
  abbrev page : ℕ
  page = page_number handle.place

  abbrev after : Lists
  after = given_from (state_of (parts_of core)) (lists_of (parts_of core)) (size_of bytes) page

  has_now : has_place (lists_on after page)
      ≡ has_place (lists_in plain_number heap.segments page)
  has_now =
      let same = heap_now core worker heap made.below in
      let other = some_is (segment_in plain_number heap.segments (segment_of_page page))
      (held made (segment_of_page page) ∙ here made) in
      let told = numbered_told (with_heap core worker heap) worker made.policy made.served.1
      (subst (λ m. worker < m) (sym (length-set core.heaps worker heap)) made.below) page other.0
      (ap (λ h. segment_in plain_number h.segments (segment_of_page page)) same ∙ other.1)
      ∙ ap (λ h. numbered page (lists_in plain_number h.segments page)) same in
      ap (λ l. has_place (lists_on l page)) (sym (lists_given made))
      ∙ ap has_place told ∙ has_numbered page (lists_in plain_number heap.segments page)

  queues_given : (seen (with_heap core worker heap)).queues ≡ set (seen core).queues worker
      (placed after page (Some (key_of arena (number_of_size (size_of bytes))))
      (queues_of (seen core) worker))
  queues_given =
      let key = key_of arena (number_of_size (size_of bytes)) in
      queues_put core worker heap made.tidy made.below made.served.1
      ∙ ap (set (seen core).queues worker)
      (made.given.queues
      ∙ ap (λ qs. requeued key page (has_place (lists_in plain_number heap.segments page)) qs)
      (sym (queues_told core worker))
      ∙ ap (λ b. requeued key page b (queues_of (seen core) worker)) (sym has_now))

pub alloc_is_chosen : AllocIsChosen
alloc_is_chosen core w actor arena bytes handle heap policy t below settled served given =
    let made : IsAlloc core w actor arena bytes handle heap = record {
      policy = policy;
      tidy = t;
      below = below;
      settled = settled;
      served = served;
      given = given;
    } in
    record {
      step = served.0;
      chosen =
          choice_is_told core w arena (size_of bytes) policy t below settled (sized made)
          ∙ given.chosen;
      lists = lists_given made;
      queues = queues_given made;
    }

-- The lists of a page of a worker's heap, by the places' numbers.
use Rattle.std.proofs.Common.{◌≡◌, ℕ, ◌+◌, ◌*◌, ◌%◌, ◌<◌, Bool, true, false, [], ◌∷◌, ◌++◌, List}
use Rattle.std.proofs.Common.{length, Some, refl, sym, ap, ◌∙◌, arith}
use Rattle.std.specs.Option.{option_map, option_and_then}
use Rattle.hg_place.specs.Places.{segment_of_page}
use Rattle.hg_place.specs.declared.plain.PlainWords.{PlainWords}
use Rattle.hg_place.specs.Plain.{plain_records}
use Rattle.hg_size.specs.Sizes.{number_of_size}
use Rattle.hg_size.specs.SizeLaws.{key_of}
use Rattle.hg_page.specs.PageLists.{PageLists}
use Rattle.hg_segment.specs.Kept.{Kept, class_at, lists_at, returned}
use Rattle.hg_segment.specs.Parted.{plain_number}
use Rattle.hg_machine.specs.Policy.{arena_of}
use Rattle.hg_machine.specs.SoundPolicy.{IsSoundPolicy}
use Rattle.hg_machine.specs.State.{class_at as class_of_page}
use Rattle.hg_machine.specs.Lists.{Lists, list_at}
use Rattle.hg_heap.specs.Held.{segment_in, has_place, is_some_place, lists_on as lists_in}
use Rattle.hg_heap.specs.Held.{lists_by as lists_had}
use Rattle.hg_heap.specs.Queues.{key_by, key_on as key_in}
use Rattle.hg_heap.proofs.ViewRoom.{found_one}
use Rattle.hg_agreement.specs.Parts.{state_of, lists_of, places_from}
use Rattle.hg_parts.specs.Tidy.{IsTidy}
use Rattle.hg_choice.specs.PageLists.{lists_on, with_page}
use Rattle.hg_choice.specs.QueuesAfter.{key_on}
use Rattle.hg_events.specs.Core.{Core, parts_of, heap_of}
use Rattle.hg_chosen.proofs.HeapTold.{policed, told}
use Rattle.hg_chosen.proofs.HeapLists.{numbered}

-- a page has a place by its numbers as by its indexes
some_numbered : (first : ℕ) (one other : List ℕ)
    → is_some_place (places_from first one ++ places_from first other)
    ≡ is_some_place (one ++ other)
some_numbered first [] [] = refl
some_numbered first [] (y ∷ ys) = refl
some_numbered first (x ∷ xs) other = refl

pub has_numbered : (page : ℕ) (l : PageLists) → has_place (numbered page l) ≡ has_place l
has_numbered page l = some_numbered (page * 512) l.free l.local_free

-- lists with such a page
pub same_page : (l : Lists) (page : ℕ) (one other : PageLists) → one.free ≡ other.free
    → one.local_free ≡ other.local_free → with_page l page one ≡ with_page l page other
same_page l page one other e f =
    ap (λ fs. with_page l page (record one { free = fs })) e
    ∙ ap (λ fs. with_page l page (record one { free = other.free; local_free = fs })) f

pub numbered_returned : (l : Lists) (page index : ℕ) (b : Bool) (lists : PageLists)
    → with_page l page (numbered page (returned b lists index))
    ≡ with_page l page (returned b (numbered page lists) (page * 512 + index))
numbered_returned l page index true lists = refl
numbered_returned l page index false lists = refl

same_record : (one other third fourth : List ℕ) → one ≡ other → third ≡ fourth
    → (let x : PageLists = record { free = one; local_free = third; used = [] } in x)
    ≡ record { free = other; local_free = fourth; used = [] }
same_record one other third fourth e f =
    ap (λ xs. (let x : PageLists = record { free = xs; local_free = third; used = [] } in x)) e
    ∙ ap (λ xs. (let x : PageLists = record { free = other; local_free = xs; used = [] } in x)) f

module _ (core : Core) (worker : ℕ) (policy : IsSoundPolicy core.policy)
    (t : IsTidy (parts_of core)) (below : worker < length core.heaps)
    (page : ℕ) (one : Kept PlainWords) (found : segment_in plain_number
    (heap_of core worker).segments (segment_of_page page) ≡ Some one) where
  its : plain_number one.slots ≡ segment_of_page page
  its = (found_one plain_number plain_records (heap_of core worker).segments (segment_of_page page)
      one found).1

  at : plain_number one.slots * 16 + page % 16 ≡ page
  at = let number = its in omega (arith, number)

  pub numbered_told : lists_on (lists_of (parts_of core)) page
      ≡ numbered page (lists_in plain_number (heap_of core worker).segments page)
  numbered_told =
      let f = found_one plain_number plain_records (heap_of core worker).segments
      (segment_of_page page) one found in
      let there = told core worker policy t below one f.0 in
      let l = lists_at one.lists (page % 16) in
      let free : list_at (lists_of (parts_of core)).free page ≡ places_from (page * 512) l.free =
      ap (list_at (lists_of (parts_of core)).free) (sym at) ∙ there.free (page % 16) (omega arith)
      ∙ ap (λ n. places_from (n * 512) l.free) at
      in
      let others : list_at (lists_of (parts_of core)).local_free page
      ≡ places_from (page * 512) l.local_free =
      ap (list_at (lists_of (parts_of core)).local_free) (sym at)
      ∙ there.local_free (page % 16) (omega arith) ∙ ap (λ n. places_from (n * 512) l.local_free) at
      in
      same_record _ _ _ _ free others
      ∙ sym (ap (λ o. numbered page (lists_had plain_number o (page % 16))) found)

  pub class_told : class_of_page (state_of (parts_of core)) page ≡ class_at one.classes (page % 16)
  class_told =
      let f = found_one plain_number plain_records (heap_of core worker).segments
      (segment_of_page page) one found in
      ap (class_of_page (state_of (parts_of core))) (sym at)
      ∙ (told core worker policy t below one f.0).classes (page % 16) (omega arith)

  pub arena_told : arena_of core.policy (segment_of_page page) ≡ Some one.arena
  arena_told =
      let f = found_one plain_number plain_records (heap_of core worker).segments
      (segment_of_page page) one found in
      ap (arena_of core.policy) (sym its) ∙ (policed core worker policy t below).arena one f.0

  pub greatest_told : one.greatest ≡ core.policy.max_generation
  greatest_told =
      let f = found_one plain_number plain_records (heap_of core worker).segments
      (segment_of_page page) one found in
      (policed core worker policy t below).greatest one f.0

  pub key_told : key_on (state_of (parts_of core)) page
      ≡ key_in plain_number (heap_of core worker).segments page
  key_told =
      ap (λ o. option_and_then (λ arena. option_map (λ size. key_of arena (number_of_size size))
      (class_of_page (state_of (parts_of core)) page)) o) arena_told
      ∙ ap (option_map (λ size. key_of one.arena (number_of_size size))) class_told
      ∙ sym (ap (λ o. key_by plain_number o (page % 16)) found)

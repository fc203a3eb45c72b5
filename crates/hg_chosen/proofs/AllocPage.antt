-- The page from which an Alloc gave a block, in the worker's heap.
use Rattle.std.proofs.Common.{◌≡◌, ℕ, ◌<◌, inl, inr, true, not, List, length, Some, refl, sym, ap}
use Rattle.std.proofs.Common.{subst, ◌∙◌, arith, Contains}
use Rattle.std.proofs.lemmas.Bool.{and_parts, or_cases}
use Rattle.hg_place.specs.declared.Actor.{Actor}
use Rattle.hg_place.specs.declared.Handle.{Handle}
use Rattle.hg_place.specs.declared.plain.PlainWords.{PlainWords}
use Rattle.hg_place.specs.Places.{number_of, page_number, segment_of, segment_of_page}
use Rattle.hg_size.specs.Sizes.{sizes}
use Rattle.hg_size.proofs.Table.{size_for_is_least}
use Rattle.hg_segment.specs.Kept.{Kept}
use Rattle.hg_segment.specs.Parted.{plain_number}
use Rattle.hg_machine.specs.SoundPolicy.{IsSoundPolicy}
use Rattle.hg_machine.specs.State.{State}
use Rattle.hg_machine.specs.Holders.{holds}
use Rattle.hg_machine.specs.Charge.{charge}
use Rattle.hg_machine.specs.Request.{words_for, size_of}
use Rattle.hg_machine.specs.Room.{is_open_to, has_open, is_room}
use Rattle.hg_machine.proofs.Allowed.{fitting}
use Rattle.hg_machine.proofs.Cases.{Served}
use Rattle.hg_heap.specs.Held.{Held, segment_in, is_held}
use Rattle.hg_agreement.specs.Parts.{Parts, state_of}
use Rattle.hg_parts.specs.Tidy.{IsTidy}
use Rattle.hg_laws.proofs.Refusals.{was_served}
use Rattle.hg_events.specs.Core.{Core, parts_of, heap_of}
use Rattle.hg_events.specs.Own.{with_heap, IsServedBy}
use Rattle.hg_events.proofs.Elsewhere.{holds_is_held}
use Rattle.hg_chosen.specs.Choice.{IsHeapSettled}
use Rattle.hg_chosen.specs.Given.{IsGiven}
use Rattle.hg_chosen.proofs.HeapLists.{some_is}
use Rattle.hg_chosen.proofs.HeldSame.{held_same}
use Rattle.hg_machine.specs.declared.Event.TheVariants as event
use Rattle.hg_machine.specs.declared.Answer.TheVariants as answer

-- a block that an Alloc gave, as the store says it
pub record IsAlloc (core : Core) (worker : ℕ) (actor : Actor) (arena bytes : ℕ) (handle : Handle)
    (heap : Held PlainWords) : Type 0 where
  pub policy : IsSoundPolicy core.policy
  pub tidy : IsTidy (parts_of core)
  pub below : worker < length core.heaps
  pub settled : IsHeapSettled (heap_of core worker)
  pub served :
      IsServedBy core worker (event.Alloc actor arena bytes) (answer.Block handle)
      (with_heap core worker heap)
  pub given : IsGiven (heap_of core worker) heap arena (size_of bytes) handle

module _ {core : Core} {worker : ℕ} {actor : Actor} {arena bytes : ℕ} {handle : Handle}
    {heap : Held PlainWords} (made : IsAlloc core worker actor arena bytes handle heap) where
  abbrev parts : Parts
  parts = parts_of core

  abbrev now : Parts
  now = parts_of (with_heap core worker heap)

  abbrev s : State
  s = state_of parts

  abbrev size : ℕ
  size = size_of bytes

  abbrev page : ℕ
  page = page_number handle.place

  abbrev old : List (Kept PlainWords)
  old = (heap_of core worker).segments

  is : Served s worker (event.Alloc actor arena bytes) (answer.Block handle) (state_of now)
  is = was_served s worker (event.Alloc actor arena bytes) (answer.Block handle) (state_of now)
      made.served.0 refl

  pub sized : Contains sizes size
  sized = (size_for_is_least (words_for bytes) size
      (fitting s worker actor.0 arena (words_for bytes) (charge s worker actor.0) is.none).0).listed

  room : is_room s worker arena size (number_of handle.place) ≡ true
  room =
      let same : is.serves.0 ≡ handle = (let e = is.serves.1 in cc) in
      subst (λ h. is_room s worker arena size (number_of h.place) ≡ true) same is.serves.2.room

  room_held : (p : ℕ) → is_room s worker arena size p ≡ true → holds s worker (segment_of p) ≡ true
  room_held p e =
      elim (or_cases (is_open_to s worker arena size (Some size) p) _ e) as
      (λ _. holds s worker (segment_of p) ≡ true) [
        | inl o ↦ (and_parts (holds s worker (segment_of p)) _ o).0
        | inr o ↦ (and_parts (holds s worker (segment_of p)) _
            (and_parts (not (has_open s worker arena size (Some size))) _ o).1).0
      ]

  pub held : (n : ℕ) → is_held plain_number heap.segments n ≡ is_held plain_number old n
  held = held_same core worker heap made.tidy made.below made.served.1 (ap (λ m. m.holders) is.after)

  same_segment : segment_of (number_of handle.place) ≡ segment_of_page page
  same_segment = let b = handle.place.index_below in omega (arith, b)

  pub held_here : holds s worker (segment_of_page page) ≡ true
  held_here = ap (holds s worker) (sym same_segment) ∙ room_held (number_of handle.place) room

  pub here : is_held plain_number old (segment_of_page page) ≡ true
  here = sym (holds_is_held core worker (segment_of_page page) made.tidy made.below) ∙ held_here

  abbrev pub one : Kept PlainWords
  one = (some_is (segment_in plain_number old (segment_of_page page)) here).0

  pub found : segment_in plain_number old (segment_of_page page) ≡ Some one
  found = (some_is (segment_in plain_number old (segment_of_page page)) here).1

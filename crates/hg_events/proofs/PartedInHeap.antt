-- A Free of a live block of another worker's heap.
use Rattle.std.proofs.Common.{◌≡◌, ℕ, List, map, slice_get, slice_set, sym, ap, ◌∙◌, subst}
use Rattle.std.specs.Prelude.{Some}
use Rattle.std.proofs.lemmas.List.{map-set}
use Rattle.hg_place.specs.declared.Actor.{Actor}
use Rattle.hg_place.specs.declared.Handle.{Handle}
use Rattle.hg_place.specs.declared.plain.PlainWords.{PlainWords}
use Rattle.hg_place.specs.Standings.{slot_of}
use Rattle.hg_heap.specs.Held.{Held}
use Rattle.hg_heap.specs.Parting.{PartedIn}
use Rattle.hg_heap.proofs.Founds.{get-map}
use Rattle.hg_machine.specs.SoundPolicy.{IsSoundPolicy}
use Rattle.hg_machine.specs.Steps.{Step}
use Rattle.hg_agreement.specs.Parts.{Plain, Parts, plain_from, heap_at, state_of}
use Rattle.hg_parts.specs.Spots.{Spot, in_heap, segment_at}
use Rattle.hg_parts.specs.Tidy.{IsTidy}
use Rattle.hg_events.specs.Core.{Core, parts_of, heap_of}
use Rattle.hg_events.specs.Own.{with_heap, IsServedBy}
use Rattle.hg_events.specs.PartedAway.{MayPart, with_in_hand, FreeIsPartedInHeap}
use Rattle.hg_events.proofs.PartedAway.{now_is, away, away_step, away_tidy}
use Rattle.hg_events.proofs.PartedPlain.{parted_at}
use Rattle.hg_events.proofs.PlainLists.{K}
use Rattle.hg_events.proofs.Told.{heap_told}
use Rattle.hg_events.proofs.CoreHeaps.{requeued_tidy}
use Rattle.hg_machine.specs.declared.Answer.TheVariants as answer
use Rattle.hg_machine.specs.declared.Event.TheVariants as event

module _ (core : Core) (worker : ℕ) (actor : Actor) (handle : Handle) (word other : ℕ)
    (heap : Held PlainWords) (policy : IsSoundPolicy core.policy) (t : IsTidy (parts_of core))
    (may : MayPart core worker actor handle word)
    (is : PartedIn handle.place word (heap_of core other).segments heap.segments) where
  abbrev old : List K
  old = (heap_of core other).segments

  abbrev now : Plain
  now = parted_at (plain_from is.before) (slot_of handle.place)

  abbrev spot : Spot
  spot = in_heap other is.found

  there : segment_at (parts_of core) spot ≡ Some (plain_from is.before)
  there =
      ap (λ (h : List Plain). slice_get h is.found) (heap_told core other)
      ∙ get-map plain_from old is.found is.before is.at

  -- the core afterwards, and its parts but for the queues
  abbrev new : Core
  new = with_in_hand (with_heap core other heap) worker handle.place

  abbrev after : Parts
  after =
      away core worker actor handle word policy t may spot is.before is.after there is.segment
      is.parted

  segments_are : map plain_from heap.segments
      ≡ slice_set (heap_at (parts_of core) other) is.found now
  segments_are =
      ap (map plain_from) is.now
      ∙ map-set plain_from old is.found is.after
      ∙ ap (slice_set (map plain_from old) is.found)
      (now_is handle.place word is.before is.after is.parted)
      ∙ ap (λ (h : List Plain). slice_set h is.found now) (sym (heap_told core other))

  new_is : parts_of new ≡ record after { queues = (parts_of new).queues }
  new_is =
      ap (λ (hs : List (List Plain)). let x : Parts = record (parts_of new) { heaps = hs } in x)
      (map-set (λ held. map plain_from held.segments) core.heaps other heap
      ∙ ap (slice_set (parts_of core).heaps other) segments_are)

  served : IsServedBy core worker (event.Free actor handle) answer.Parted new
  served = (
    subst (λ (p : Parts). Step (state_of (parts_of core)) worker (event.Free actor handle)
        answer.Parted (state_of p)) (sym new_is)
        (away_step core worker actor handle word policy t may spot is.before is.after there
        is.segment is.parted),
    subst (λ (p : Parts). IsTidy p) (sym new_is)
        (requeued_tidy (parts_of new).queues
        (away_tidy core worker actor handle word policy t may spot is.before is.after there
        is.segment is.parted)),
  )

pub free_is_parted_in_heap : FreeIsPartedInHeap
free_is_parted_in_heap core worker actor handle word other heap policy t may is =
    served core worker actor handle word other heap policy t may is

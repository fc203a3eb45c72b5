-- A Free of a block of a segment that the worker doesn't hold leaves all lists and queues.
use Rattle.std.proofs.Common.{◌≡◌, ℕ, ◌≤◌, List, map, slice_get, slice_set, refl, sym, ap, ◌∙◌, inl}
use Rattle.std.proofs.Common.{inr}
use Rattle.std.specs.Prelude.{Some, Option}
use Rattle.std.proofs.lemmas.List.{map-set}
use Rattle.hg_place.specs.declared.Place.{Place}
use Rattle.hg_place.specs.declared.plain.PlainWords.{PlainWords}
use Rattle.hg_segment.specs.Kept.{Kept, lists_at}
use Rattle.hg_segment.specs.Parted.{Parted, plain_number}
use Rattle.hg_pool.specs.Pooled.{Pooled, replaced}
use Rattle.hg_pool.specs.Parting.{PartedIn as PartedInPool}
use Rattle.hg_heap.specs.Held.{Held}
use Rattle.hg_heap.specs.Parting.{PartedIn as PartedInHeap}
use Rattle.hg_heap.proofs.Founds.{get-map}
use Rattle.hg_machine.specs.Lists.{Lists}
use Rattle.hg_agreement.specs.Parts.{Plain, Parts, plain_from, lists_of}
use Rattle.hg_parts.specs.Spots.{Spot, in_heap, in_orphans, in_fresh, segment_at, with_segment}
use Rattle.hg_parts.specs.Tidy.{IsTidy}
use Rattle.hg_events.specs.Core.{Core, parts_of, heap_of}
use Rattle.hg_events.specs.Own.{with_heap}
use Rattle.hg_events.specs.PartedAway.{with_in_hand, with_pool}
use Rattle.hg_events.proofs.PartedInHeap.{free_is_parted_in_heap}
use Rattle.hg_events.proofs.PartedInPool.{free_is_parted_in_pool}
use Rattle.hg_events.proofs.PoolSpots.{count, own_number, stands_pooled, replaced_none}
use Rattle.hg_events.proofs.PoolSpots.{replaced_one}
use Rattle.hg_events.proofs.Told.{heap_told}
use Rattle.hg_chosen.specs.Parted.{PartedInHeapIsChosen, PartedInPoolIsChosen}
use Rattle.hg_chosen.proofs.CoreQueues.{queues_same}
use Rattle.hg_chosen.proofs.ListedSwaps.{alike, same_lists}

abbrev K : Type 0
K = Kept PlainWords

-- a segment that has a block parted has the lists that it had
module _ (core : Core) (place : Place) (word : ℕ) (before after : K) (spot : Spot)
    (t : IsTidy (parts_of core))
    (there : segment_at (parts_of core) spot ≡ Some (plain_from before))
    (parted : Parted place word before after) where
  abbrev pub parted_parts : List (Option ℕ) → Parts
  parted_parts hands = with_segment (parts_of core) spot (plain_from after) hands

  pub parted_lists : (hands : List (Option ℕ)) (queues : List (List (List ℕ)))
      → lists_of (record (parted_parts hands) { queues = queues }) ≡ lists_of (parts_of core)
  parted_lists hands queues =
      let w = parted_parts hands in
      alike (parts_of core) w.heaps w.orphans w.fresh hands queues
      (same_lists (parts_of core) spot (plain_from before) hands t there (plain_from after)
      parted.number
      (λ page low. ap (λ (k : K). lists_at k.lists page) parted.rest))

module _ (core : Core) (worker other : ℕ) (place : Place) (word : ℕ) (heap : Held PlainWords)
    (t : IsTidy (parts_of core))
    (is : PartedInHeap place word (heap_of core other).segments heap.segments) where
  abbrev old : List K
  old = (heap_of core other).segments

  abbrev spot : Spot
  spot = in_heap other is.found

  abbrev new : Core
  new = with_in_hand (with_heap core other heap) worker place

  there : segment_at (parts_of core) spot ≡ Some (plain_from is.before)
  there =
      ap (λ (h : List Plain). slice_get h is.found) (heap_told core other)
      ∙ get-map plain_from old is.found is.before is.at

  heaps_are : (parts_of new).heaps
      ≡ (with_segment (parts_of core) spot (plain_from is.after) core.hands).heaps
  heaps_are =
      map-set (λ (held : Held PlainWords). map plain_from held.segments) core.heaps other heap
      ∙ ap (slice_set (parts_of core).heaps other)
      (ap (map plain_from) is.now
      ∙ map-set plain_from old is.found is.after
      ∙ ap (λ (h : List Plain). slice_set h is.found (plain_from is.after))
      (sym (heap_told core other)))

  pub heap_lists : lists_of (parts_of new) ≡ lists_of (parts_of core)
  heap_lists =
      ap (λ (hs : List (List Plain)). let x : Lists = lists_of
      (record (parts_of core) { heaps = hs }) in x) heaps_are
      ∙ parted_lists core place word is.before is.after spot t there is.parted core.hands
      (parts_of core).queues

module _ (core : Core) (worker : ℕ) (place : Place) (word : ℕ) (pool : Pooled PlainWords)
    (t : IsTidy (parts_of core)) (is : PartedInPool place word core.pool pool) where
  abbrev n : ℕ
  n = place.segment

  abbrev os : List K
  os = core.pool.orphans

  abbrev fs : List K
  fs = core.pool.fresh

  abbrev now : Plain
  now = plain_from is.after

  own : plain_number is.before.slots ≡ n
  own = own_number core n is.before t is.there

  abbrev pooled : List Plain → List Plain → Lists
  pooled orphans unused = lists_of (record (parts_of core) { orphans = orphans; fresh = unused })

  one_is : (own_list : List K) (at : ℕ) → slice_get own_list at ≡ Some is.before
      → count n own_list ≤ 1
      → map plain_from (replaced plain_number n is.after own_list)
      ≡ slice_set (map plain_from own_list) at now
  one_is own_list at there few =
      ap (map plain_from) (replaced_one n is.before is.after own_list at there own few)
      ∙ map-set plain_from own_list at is.after

  other_is : (others : List K) → count n others ≡ 0
      → map plain_from (replaced plain_number n is.after others) ≡ map plain_from others
  other_is others none = ap (map plain_from) (replaced_none n is.after others none)

  pub pool_lists : lists_of (parts_of (with_in_hand (with_pool core pool) worker place))
      ≡ lists_of (parts_of core)
  pool_lists =
      ap (λ (p : Pooled PlainWords). pooled (map plain_from p.orphans) (map plain_from p.fresh))
      is.now
      ∙ elim (stands_pooled core n is.before t is.there) [
        | inl among ↦
            ap (λ xs. pooled xs (map plain_from (replaced plain_number n is.after fs)))
            (one_is os among.at among.there among.few)
            ∙ ap (pooled (slice_set (map plain_from os) among.at now)) (other_is fs among.none)
            ∙ parted_lists core place word is.before is.after (in_orphans among.at) t
            (get-map plain_from os among.at is.before among.there) is.parted core.hands
            (parts_of core).queues
        | inr among ↦
            ap (λ xs. pooled xs (map plain_from (replaced plain_number n is.after fs)))
            (other_is os among.none)
            ∙ ap (pooled (map plain_from os)) (one_is fs among.at among.there among.few)
            ∙ parted_lists core place word is.before is.after (in_fresh among.at) t
            (get-map plain_from fs among.at is.before among.there) is.parted core.hands
            (parts_of core).queues
      ]

pub parted_in_heap_is_chosen : PartedInHeapIsChosen
parted_in_heap_is_chosen core worker actor handle word other heap policy t may is queues = record {
  step =
      (free_is_parted_in_heap core worker actor handle word other heap policy t may is).0;
  chosen = tt;
  lists = heap_lists core worker other handle.place word heap t is;
  queues = queues_same core other heap queues;
}

pub parted_in_pool_is_chosen : PartedInPoolIsChosen
parted_in_pool_is_chosen core worker actor handle word pool policy t may is = record {
  step = (free_is_parted_in_pool core worker actor handle word pool policy t may is).0;
  chosen = tt;
  lists = pool_lists core worker handle.place word pool t is;
  queues = refl;
}

-- What a change of the slot words of a held segment alone leaves of the heap: a meeting at a place, and
-- what is lent.
use Rattle.std.proofs.Common.{◌≡◌, ◌↔◌, ℕ, List, map, Option, Some, refl, ap, ◌∙◌, slice_set}
use Rattle.hg_place.specs.declared.Place.{Place}
use Rattle.hg_place.specs.declared.standing.Standing.{Standing}
use Rattle.hg_place.specs.Standings.{slot_of}
use Rattle.hg_segment.specs.Kept.{Kept}
use Rattle.hg_heap.specs.Held.{kind_of, segment_in, KeepsLists}
use Rattle.hg_heap.specs.Settled.{IsSettled}
use Rattle.hg_heap.specs.Right.{IsRight}
use Rattle.hg_heap.specs.Keeping.{rest_of, KeepsAll}
use Rattle.hg_heap.specs.Met.{Met}
use Rattle.hg_heap.specs.SlotsChanged.{SlotsChanged}
use Rattle.hg_heap.proofs.Founds.{Found, found_is, map_same, number_is}
use Rattle.hg_heap.proofs.Judging.{rest_same}
use Rattle.hg_heap.proofs.RightKept.{lists_kept, right_kept}

module _ {S : Type 0} (number : S → ℕ) (records : S → List Standing)
    (items : List (Kept S)) (found segment : ℕ) (one : Kept S)
    (here : Found number items segment found one) where
  -- what holds of the segment of the number holds of the one that was found
  pub found_may : (P : Kept S → Type 0)
      → ((k : Kept S) → segment_in number items segment ≡ Some k → P k) → P one
  found_may P may = may one (found_is number items segment found one here)

  module _ (after : Kept S) (same_number : number after.slots ≡ number one.slots)
      (same_records : records after.slots ≡ records one.slots)
      (rest : after ≡ record one { slots = after.slots }) where
    kind_same : kind_of number after ≡ kind_of number one
    kind_same = ap (kind_of number) rest
        ∙ ap (λ (n : ℕ). record { number = n; arena = one.arena; greatest = one.greatest })
        same_number

    classes_same : after.classes ≡ one.classes
    classes_same = ap (λ (k : Kept S). k.classes) rest

    lists_same : after.lists ≡ one.lists
    lists_same = ap (λ (k : Kept S). k.lists) rest

    pub lists_met : KeepsLists number items (slice_set items found after)
    lists_met = lists_kept number items found one after here.at kind_same classes_same lists_same

    pub right_met : (table : List (Option ℕ)) (charges : List ℕ) (capacity : ℕ)
        (queues : List (List ℕ))
        → IsRight number records table charges capacity
        (record { segments = items; queues = queues }) → IsSettled records after
        → IsRight number records table charges capacity
        (record { segments = slice_set items found after; queues = queues })
    right_met = right_kept number items found one after here.at kind_same classes_same lists_same
        records same_records

    pub met_here : {Other : Type 0} (shows : S → ℕ → ℕ → Type 0)
        (meets : S → Other → ℕ → ℕ → S → Other → Type 0) (place : Place) → segment ≡ place.segment
        → (word : ℕ) (other theirs : Other) → shows one.slots (slot_of place) word
        → meets one.slots other (slot_of place) word after.slots theirs
        → Met number records shows meets place word items other (slice_set items found after) theirs
    met_here shows meets place same word other theirs shown met = record {
      found = found;
      one = one;
      slots = after.slots;
      at = here.at;
      now = ap (slice_set items found) rest;
      segment = number_is number items segment found one here ∙ same;
      same_number = same_number;
      same_records = same_records;
      shown = shown;
      met = met;
    }

    pub changed_here : (shows : S → ℕ → ℕ → Type 0) (change : S → S → Type 0)
        → ((at word : ℕ) → shows one.slots at word ↔ shows after.slots at word)
        → change one.slots after.slots
        → SlotsChanged number records shows segment change items (slice_set items found after)
    changed_here shows change shown changed = record {
      found = found;
      one = one;
      slots = after.slots;
      at = here.at;
      now = ap (slice_set items found) rest;
      numbered = number_is number items segment found one here;
      same_number = same_number;
      same_records = same_records;
      same_shown = shown;
      changed = changed;
    }

module _ {S Other : Type 0} (number : S → ℕ) (records : S → List Standing)
    (shows : S → ℕ → ℕ → Type 0) (meets : S → Other → ℕ → ℕ → S → Other → Type 0) where
  -- all segments are as they were
  pub met_keeps : (place : Place) (word : ℕ) (old new : List (Kept S)) (other theirs : Other)
      → Met number records shows meets place word old other new theirs
      → KeepsAll number records old new
  met_keeps place word old new other theirs m =
      ap (map (rest_of number records)) m.now
      ∙ map_same (rest_of number records) old m.found m.one (record m.one { slots = m.slots }) m.at
      (rest_same number records m.one (record m.one { slots = m.slots }) m.same_number
      m.same_records refl refl)

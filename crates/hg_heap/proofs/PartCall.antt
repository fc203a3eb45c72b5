-- A place of a heap's segment was parted, or not.
use Rattle.std.proofs.Common.{◌≡◌, ℕ, List, Some, refl, ap, ◌∙◌, slice_set}
use Rattle.std.specs.Prelude.{◌≢◌, Ok, Err, Option, Result, OnOk, IfErr, slice_index, option_map}
use Rattle.hg_place.specs.declared.Place.{Place}
use Rattle.hg_place.specs.declared.plain.PlainWords.{PlainWords}
use Rattle.hg_place.specs.Plain.{plain_words, plain_records}
use Rattle.hg_place.specs.Standings.{slot_of}
use Rattle.hg_segment.specs.Kept.{Kept}
use Rattle.hg_segment.specs.Parted.{Parted, NotParted, plain_number}
use Rattle.hg_heap.specs.Held.{kind_of, KeepsLists}
use Rattle.hg_heap.specs.Right.{IsRight}
use Rattle.hg_heap.specs.Settled.{IsSettled}
use Rattle.hg_heap.specs.Parting.{word_in, PartedIn}
use Rattle.hg_heap.proofs.Founds.{Found, found_is, number_is}
use Rattle.hg_heap.proofs.RightKept.{lists_kept, right_kept}

-- the segment is as it was but for words of places
pub record Stayed (one after : Kept PlainWords) : Type 0 where
  pub kind : kind_of plain_number after ≡ kind_of plain_number one
  pub classes : after.classes ≡ one.classes
  pub lists : after.lists ≡ one.lists
  pub records : plain_records after.slots ≡ plain_records one.slots

pub stayed : {X : Type 0} (place : Place) (live : ℕ) (one after : Kept PlainWords)
    (r : Result X ℕ) → OnOk r (Parted place live one after)
    → IfErr r (λ word. NotParted place live word one after)
    → Stayed one after
stayed place live one after (Ok done) p o = record {
  kind = ap (kind_of plain_number) p.rest
      ∙ ap (λ (n : ℕ). record { number = n; arena = one.arena; greatest = one.greatest }) p.number;
  classes = ap (λ (k : Kept PlainWords). k.classes) p.rest;
  lists = ap (λ (k : Kept PlainWords). k.lists) p.rest;
  records = p.records;
}
stayed place live one after (Err word) p o = record {
  kind = ap (kind_of plain_number) o.same;
  classes = ap (λ (k : Kept PlainWords). k.classes) o.same;
  lists = ap (λ (k : Kept PlainWords). k.lists) o.same;
  records = ap (λ (k : Kept PlainWords). plain_records k.slots) o.same;
}

module _ (items : List (Kept PlainWords)) (found live : ℕ) (place : Place)
    (one after : Kept PlainWords) (here : Found plain_number items place.segment found one) where
  pub word_there : word_in items place ≡ Some (slice_index (plain_words one.slots) (slot_of place))
  word_there = ap
      (option_map (λ (k : Kept PlainWords). slice_index (plain_words k.slots) (slot_of place)))
      (found_is plain_number items place.segment found one here)

  module _ {X : Type 0} (r : Result X ℕ) (parted : OnOk r (Parted place live one after))
      (other : IfErr r (λ word. NotParted place live word one after)) where
    pub part_lists : KeepsLists plain_number items (slice_set items found after)
    part_lists = let s = stayed place live one after r parted other in
        lists_kept plain_number items found one after here.at s.kind s.classes s.lists

    pub part_right : (table : List (Option ℕ)) (charges : List ℕ) (capacity : ℕ) (queues : List (List ℕ))
        → IsRight plain_number plain_records table charges capacity
        (record { segments = items; queues = queues }) → IsSettled plain_records after
        → IsRight plain_number plain_records table charges capacity
        (record { segments = slice_set items found after; queues = queues })
    part_right = let s = stayed place live one after r parted other in
        right_kept plain_number items found one after here.at s.kind s.classes s.lists
        plain_records s.records

  pub part_parted : {X : Type 0} (r : Result X ℕ) → OnOk r (Parted place live one after)
      → OnOk r (PartedIn place live items (slice_set items found after))
  part_parted (Ok done) p = record {
    found = found;
    before = one;
    after = after;
    at = here.at;
    now = refl;
    segment = number_is plain_number items place.segment found one here;
    parted = p;
  }
  part_parted (Err word) p = tt

  pub part_other : {X : Type 0} (r : Result X ℕ) → IfErr r (λ word. NotParted place live word one after)
      → IfErr r (λ word. (word ≢ live) × (word_in items place ≡ Some word))
  part_other (Ok done) o = tt
  part_other (Err word) o = (o.other, word_there ∙ ap Some o.stood)

-- A segment of a heap of which one place was given out, on a page that has the class now.
use Rattle.std.proofs.Common.{◌≡◌, ◌≢◌, ℕ, ◌+◌, ◌*◌, ◌/◌, ◌%◌, ◌<◌, List, map, Option}
use Rattle.std.proofs.Common.{sym, ap, subst, ◌∙◌, arith, slice_set}
use Rattle.std.proofs.Common.{replicate, inl, inr}
use Rattle.std.proofs.lemmas.Bool.{cases_Bool}
use Rattle.std.proofs.lemmas.List.{map-set}
use Rattle.hg_place.specs.declared.Place.{Place}
use Rattle.hg_place.specs.declared.standing.Standing.{Standing}
use Rattle.hg_place.specs.declared.standing.Standing.TheVariants.{Open}
use Rattle.hg_place.specs.Places.{number_of}
use Rattle.hg_place.specs.Standings.{slot_of, standing_at, is_home}
use Rattle.hg_machine.specs.declared.Event.{Event}
use Rattle.hg_machine.specs.declared.Answer.{Answer}
use Rattle.hg_machine.specs.Policy.{Policy}
use Rattle.hg_segment.specs.Kept.{Kept, class_at}
use Rattle.hg_agreement.specs.Views.{Shown}
use Rattle.hg_agreement.specs.Agreement.{Ties}
use Rattle.hg_agreement.specs.Changed.{IsLike, put, opened}
use Rattle.hg_agreement.specs.Holdings.{Holding, block_of, class_of, view_of}
use Rattle.hg_agreement.specs.HeldPut.{IsHeldPut, with_class}
use Rattle.hg_agreement.proofs.Frames.{ties_are_like}
use Rattle.hg_agreement.proofs.Helds.{put_is_like}
use Rattle.hg_heap.specs.Allotted.{IsGiven}
use Rattle.hg_heap.specs.Ties.{holding, heap_view}
use Rattle.hg_heap.proofs.Founds.{Found, number_is, get-map}
use Rattle.hg_heap.proofs.FoundHoldings.{holding_first}
use Rattle.hg_heap.proofs.OpenBlocks.{block_is, none_at_home}

slot_below : (place : Place) → slot_of place < 8192
slot_below place = let a = place.page_below in let b = place.index_below in omega arith

module _ {S : Type 0} (number : S → ℕ) (records : S → List Standing) where
  module _ (items : List (Kept S)) (found : ℕ) (place : Place) (one last : Kept S)
      (size generation owner : ℕ) (here : Found number items place.segment found one)
      (is : IsGiven number records one last place size generation owner) where
    block_kept : (page index : ℕ) → page < 16 → index < 512 → page * 512 + index ≢ slot_of place
        → block_of (holding number records last) (page * 512 + index) ≡ block_of
        (holding number records one) (page * 512 + index)
    block_kept page index low small ne =
        let same = is.standings (page * 512 + index) (omega (arith, low, small)) ne in
        elim (cases_Bool (is_home (standing_at (records last.slots) (page * 512 + index))))
        as (λ _. block_of (holding number records last) (page * 512 + index) ≡ block_of
        (holding number records one) (page * 512 + index)) [
          | inl t ↦ none_at_home number records last page index small t
              ∙ sym (none_at_home number records one page index small (sym (ap is_home same) ∙ t))
          | inr f ↦ block_is number records last page index small f
              ∙ is.blocks page index low small ne f
              ∙ sym (block_is number records one page index small (sym (ap is_home same) ∙ f))
        ]

    split_is : (other : ℕ) → other / 512 * 512 + other % 512 ≡ other
    split_is other = omega arith

    page_is : slot_of place / 512 ≡ place.page
    page_is = let b = place.index_below in omega (arith, b)

    held_put : IsHeldPut (map (holding number records) items) found (holding number records one)
        (holding number records last) (slot_of place)
    held_put = record {
      there = get-map (holding number records) items found one here.at;
      first = holding_first number records items place.segment found one here;
      number = is.number_kept;
      below = slot_below place;
      standings = is.standings;
      blocks = λ other below ne. subst (λ (n : ℕ). block_of (holding number records last) n
          ≡ block_of (holding number records one) n) (split_is other)
          (block_kept (other / 512) (other % 512) (omega (arith, below)) (omega arith)
          (λ e. ne (sym (split_is other) ∙ e)));
      classes = λ page low ne. is.classes page (λ e. ne (e ∙ sym page_is));
    }

    place_is : number one.slots * 8192 + slot_of place ≡ number_of place
    place_is = let n = number_is number items place.segment found one here in omega (arith, n)

    zeroed_is : block_of (holding number records last) (slot_of place) ≡ replicate size 0
    zeroed_is = block_is number records last place.page place.index place.index_below
        (ap is_home is.standing) ∙ is.zeroed

    -- what is tied with the place opened is tied with the heap
    pub opened_ties : (policy : Policy) (worker : ℕ) (hand : Option ℕ) (in_hand : ℕ)
        (shown left : Option Shown) (e : Event) (a : Answer)
        → Ties (heap_view number records policy worker hand in_hand items) shown e a
        (opened (heap_view number records policy worker hand in_hand items) (number_of place)
        generation owner size) left
        → Ties (heap_view number records policy worker hand in_hand items) shown e a
        (heap_view number records policy worker hand in_hand (slice_set items found last)) left
    opened_ties policy worker hand in_hand shown left e a ties =
        let before = heap_view number records policy worker hand in_hand items in
        let at = slot_of place in
        let after = view_of policy worker hand in_hand
        (slice_set (map (holding number records) items) found (holding number records last)) in
        let like = put_is_like policy worker hand in_hand (map (holding number records) items) found
        (holding number records one) (holding number records last) at held_put in
        let like1 : IsLike
        (with_class (put before (number_of place) (standing_at (records last.slots) at)
        (block_of (holding number records last) at)) (number_of place)
        (class_of (holding number records last) (at / 512))) after =
        subst (λ (n : ℕ). IsLike
        (with_class (put before n (standing_at (records last.slots) at)
        (block_of (holding number records last) at)) n
        (class_of (holding number records last) (at / 512))) after) place_is like in
        let like2 : IsLike
        (with_class (put before (number_of place) (Open generation owner)
        (block_of (holding number records last) at)) (number_of place)
        (class_of (holding number records last) (at / 512))) after =
        subst (λ (s : Standing). IsLike
        (with_class (put before (number_of place) s (block_of (holding number records last) at))
        (number_of place) (class_of (holding number records last) (at / 512))) after)
        is.standing like1 in
        let like3 : IsLike
        (with_class (put before (number_of place) (Open generation owner) (replicate size 0))
        (number_of place) (class_of (holding number records last) (at / 512))) after =
        subst (λ (ws : List ℕ). IsLike
        (with_class (put before (number_of place) (Open generation owner) ws) (number_of place)
        (class_of (holding number records last) (at / 512))) after) zeroed_is like2 in
        let like4 : IsLike (opened before (number_of place) generation owner size) after =
        subst (λ (c : Option ℕ). IsLike
        (with_class (put before (number_of place) (Open generation owner) (replicate size 0))
        (number_of place) c) after) (ap (λ (n : ℕ). class_at last.classes n) page_is ∙ is.class)
        like3 in
        ties_are_like before (opened before (number_of place) generation owner size)
        (heap_view number records policy worker hand in_hand (slice_set items found last)) shown
        left e a
        (subst (λ (hs : List Holding). IsLike
        (opened before (number_of place) generation owner size)
        (view_of policy worker hand in_hand hs))
        (sym (map-set (holding number records) items found last)) like4) ties

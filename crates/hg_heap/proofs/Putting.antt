-- A call that changed one place of a segment of the heap.
use Rattle.std.proofs.Common.{◌≡◌, ◌≢◌, ℕ, ◌+◌, ◌*◌, ◌/◌, ◌%◌, ◌<◌, false, List, map, Option, sym}
use Rattle.std.proofs.Common.{ap, subst, ◌∙◌, arith, slice_set, inl, inr}
use Rattle.std.proofs.lemmas.Bool.{cases_Bool}
use Rattle.std.proofs.lemmas.List.{map-set}
use Rattle.hg_place.specs.declared.Place.{Place}
use Rattle.hg_place.specs.declared.standing.Standing.{Standing}
use Rattle.hg_place.specs.Places.{number_of}
use Rattle.hg_place.specs.Standings.{slot_of, standing_at, is_home}
use Rattle.hg_machine.specs.declared.Event.{Event}
use Rattle.hg_machine.specs.declared.Answer.{Answer}
use Rattle.hg_machine.specs.Policy.{Policy}
use Rattle.hg_segment.specs.Kept.{Kept, class_at}
use Rattle.hg_segment.specs.Blocks.{block_at}
use Rattle.hg_agreement.specs.Views.{Shown}
use Rattle.hg_agreement.specs.Agreement.{Ties}
use Rattle.hg_agreement.specs.Changed.{IsLike, put}
use Rattle.hg_agreement.specs.Holdings.{Holding, block_of, view_of}
use Rattle.hg_agreement.specs.HeldPut.{IsHeldPut}
use Rattle.hg_agreement.proofs.Frames.{ties_are_like}
use Rattle.hg_agreement.proofs.Helds.{put_is_like_put}
use Rattle.hg_heap.specs.Ties.{holding, heap_view}
use Rattle.hg_heap.proofs.Founds.{Found, number_is}
use Rattle.hg_heap.proofs.FoundHoldings.{holding_there, holding_first}
use Rattle.hg_heap.proofs.OpenBlocks.{block_is, none_at_home}
use Rattle.hg_heap.proofs.Looking.{slot_below}

module _ {S : Type 0} (number : S → ℕ) (records : S → List Standing) where
  -- what a call left of the other places of a segment
  pub record IsChangedAt (one last : Kept S) (at : ℕ) : Type 0 where
    pub number_kept : number last.slots ≡ number one.slots
    pub classes : last.classes ≡ one.classes
    pub standings : (other : ℕ) → other < 8192 → other ≢ at
        → standing_at (records last.slots) other ≡ standing_at (records one.slots) other
    pub blocks : (page index : ℕ) → page < 16 → index < 512 → page * 512 + index ≢ at
        → is_home (standing_at (records last.slots) (page * 512 + index)) ≡ false
        → block_at last.words one.classes page index ≡ block_at one.words one.classes page index

  block_kept : (one last : Kept S) (at : ℕ) → IsChangedAt one last at → (page index : ℕ) → page < 16
      → index < 512 → page * 512 + index ≢ at
      → block_of (holding number records last) (page * 512 + index) ≡ block_of
      (holding number records one) (page * 512 + index)
  block_kept one last at is page index low small ne =
      let same = is.standings (page * 512 + index) (omega (arith, low, small)) ne in
      elim (cases_Bool (is_home (standing_at (records last.slots) (page * 512 + index))))
      as (λ _. block_of (holding number records last) (page * 512 + index) ≡ block_of
      (holding number records one) (page * 512 + index)) [
        | inl t ↦ none_at_home number records last page index small t
            ∙ sym (none_at_home number records one page index small (sym (ap is_home same) ∙ t))
        | inr f ↦ block_is number records last page index small f
            ∙ ap (λ (cs : List (Option ℕ)). block_at last.words cs page index) is.classes
            ∙ is.blocks page index low small ne f
            ∙ sym (block_is number records one page index small (sym (ap is_home same) ∙ f))
      ]

  module _ (items : List (Kept S)) (found : ℕ) (place : Place) (one last : Kept S)
      (here : Found number items place.segment found one)
      (is : IsChangedAt one last (slot_of place)) where
    split_is : (other : ℕ) → other / 512 * 512 + other % 512 ≡ other
    split_is other = omega arith

    pub held_put : IsHeldPut (map (holding number records) items) found (holding number records one)
        (holding number records last) (slot_of place)
    held_put = record {
      there = holding_there number records items place found one here;
      first = holding_first number records items place.segment found one here;
      number = is.number_kept;
      below = slot_below place;
      standings = is.standings;
      blocks = λ other below ne. subst
          (λ (n : ℕ). block_of (holding number records last) n ≡ block_of
          (holding number records one) n) (split_is other)
          (block_kept one last (slot_of place) is (other / 512) (other % 512) (omega (arith, below))
          (omega arith) (λ e. ne (sym (split_is other) ∙ e)));
      classes = λ page low ne. ap (λ (cs : List (Option ℕ)). class_at cs page) is.classes;
    }

    place_is : number one.slots * 8192 + slot_of place ≡ number_of place
    place_is = let n = number_is number items place.segment found one here in omega (arith, n)

    -- what is tied with the place put so is tied with the heap
    pub put_ties : (policy : Policy) (worker : ℕ) (hand : Option ℕ) (generation : ℕ)
        (shown left : Option Shown) (e : Event) (a : Answer)
        → Ties (heap_view number records policy worker hand generation items) shown e a
        (put (heap_view number records policy worker hand generation items) (number_of place)
        (standing_at (records last.slots) (slot_of place))
        (block_of (holding number records last) (slot_of place))) left
        → Ties (heap_view number records policy worker hand generation items) shown e a
        (heap_view number records policy worker hand generation (slice_set items found last))
        left
    put_ties policy worker hand generation shown left e a ties =
        let before = heap_view number records policy worker hand generation items in
        let now = put before (number_of place) (standing_at (records last.slots) (slot_of place))
        (block_of (holding number records last) (slot_of place)) in
        let like = put_is_like_put policy worker hand generation
        (map (holding number records) items) found (holding number records one)
        (holding number records last) (slot_of place) held_put
        (ap (λ (cs : List (Option ℕ)). class_at cs (slot_of place / 512)) is.classes) in
        let like_here : IsLike now
        (view_of policy worker hand generation
        (slice_set (map (holding number records) items) found (holding number records last))) =
        subst (λ (n : ℕ). IsLike (put before n (standing_at (records last.slots) (slot_of place))
        (block_of (holding number records last) (slot_of place)))
        (view_of policy worker hand generation
        (slice_set (map (holding number records) items) found (holding number records last))))
        place_is like in
        ties_are_like before now (heap_view number records policy worker hand generation
        (slice_set items found last)) shown left e a
        (subst (λ (hs : List Holding). IsLike now (view_of policy worker hand generation hs))
        (sym (map-set (holding number records) items found last)) like_here) ties

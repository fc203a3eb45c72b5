-- What the holdings of a heap tell of the segment that is found.
use Rattle.std.proofs.Common.{◌≡◌, ℕ, ◌+◌, ◌%◌, ◌==◌, inl, inr, true}
use Rattle.std.proofs.Common.{cond, ◌∷◌, [], List, map, Some}
use Rattle.std.proofs.Common.{refl, sym, ap, ◌∙◌, find, is_some, slice_get}
use Rattle.std.proofs.Common.{slice_set}
use Rattle.std.specs.List.{position_or_len}
use Rattle.std.proofs.lemmas.Bool.{cases_Bool}
use Rattle.hg_place.specs.declared.Place.{Place}
use Rattle.hg_place.specs.declared.standing.Standing.{Standing}
use Rattle.hg_place.specs.Places.{number_of, segment_of}
use Rattle.hg_place.specs.Standings.{slot_of, standing_at}
use Rattle.hg_segment.specs.Kept.{Kept}
use Rattle.hg_agreement.specs.Holdings.{holding_of, block_of, block_told, standing_told}
use Rattle.hg_agreement.specs.Holdings.{has}
use Rattle.hg_agreement.proofs.Sees.{segment_is}
use Rattle.hg_heap.specs.Held.{is_of, segment_in}
use Rattle.hg_heap.specs.Ties.{holding}
use Rattle.hg_heap.proofs.Founds.{Found, found_is, number_is, at_is, get-map, map_same}

module _ {S : Type 0} (number : S → ℕ) (records : S → List Standing) where
  found_kept : (heap : List (Kept S)) (segment : ℕ) (one : Kept S)
      → segment_in number heap segment ≡ Some one
      → holding_of (map (holding number records) heap) segment ≡ Some (holding number records one)
  found_kept [] segment one e = absurd (cc)
  found_kept (x ∷ xs) segment one e = elim
      (cases_Bool (number x.slots == segment))
      as (λ _. cond (number x.slots == segment) (Some (holding number records x))
      (holding_of (map (holding number records) xs) segment)
      ≡ Some (holding number records one)) [
        | inl t ↦
            let same : Some x ≡ Some one = sym
            (ap (λ b. cond b (Some x) (find (is_of number segment) xs)) t) ∙ e in
            let is : x ≡ one = cc in
            ap (λ b. cond b (Some (holding number records x))
            (holding_of (map (holding number records) xs) segment)) t
            ∙ ap (λ k. Some (holding number records k)) is
        | inr f ↦
            ap (λ b. cond b (Some (holding number records x))
            (holding_of (map (holding number records) xs) segment)) f
            ∙ found_kept xs segment one
            (sym (ap (λ b. cond b (Some x) (find (is_of number segment) xs)) f) ∙ e)
      ]

  module _ (heap : List (Kept S)) (place : Place) (found : ℕ) (one : Kept S)
      (here : Found number heap place.segment found one) where
    pub holding_found : holding_of (map (holding number records) heap)
        (segment_of (number_of place)) ≡ Some (holding number records one)
    holding_found =
        ap (holding_of (map (holding number records) heap)) (segment_is place)
        ∙ found_kept heap place.segment one (found_is number heap place.segment found one here)

    -- what is told of a place of that segment
    pub block_found : block_told
        (holding_of (map (holding number records) heap) (segment_of (number_of place)))
        (number_of place % 8192) ≡ block_of (holding number records one) (slot_of place)
    block_found =
        ap (λ o. block_told o (number_of place % 8192)) holding_found
        ∙ ap (block_of (holding number records one)) (at_is place)

    pub standing_found : standing_told
        (holding_of (map (holding number records) heap) (segment_of (number_of place)))
        (number_of place % 8192) ≡ standing_at (records one.slots) (slot_of place)
    standing_found =
        ap (λ o. standing_told o (number_of place % 8192)) holding_found
        ∙ ap (standing_at (records one.slots)) (at_is place)

    pub held_found : has (map (holding number records) heap) place.segment ≡ true
    held_found = ap (λ s. has (map (holding number records) heap) s) (sym (segment_is place))
        ∙ ap is_some holding_found

    -- a step that leaves what is kept leaves it in the heap
    pub kept_same : (after : Kept S) → holding number records after ≡ holding number records one
        → map (holding number records) heap ≡ map (holding number records)
        (slice_set heap found after)
    kept_same after same = sym
        (map_same (holding number records) heap found one after here.at same)

    -- where it is in the list of holdings
    pub holding_there : slice_get (map (holding number records) heap) found ≡ Some
        (holding number records one)
    holding_there = get-map (holding number records) heap found one here.at

  first_there : (heap : List (Kept S)) (segment : ℕ)
      → position_or_len (is_of number segment) heap ≡ position_or_len (λ h. h.number == segment)
      (map (holding number records) heap)
  first_there [] segment = refl
  first_there (x ∷ xs) segment = elim (cases_Bool (number x.slots == segment))
      as (λ _. position_or_len (is_of number segment) (x ∷ xs) ≡ position_or_len
      (λ h. h.number == segment) (map (holding number records) (x ∷ xs))) [
        | inl t ↦ rw t refl
        | inr f ↦ rw f (ap (λ n. 1 + n) (first_there xs segment))
      ]

  -- the first holding of its number
  pub holding_first : (heap : List (Kept S)) (segment found : ℕ) (one : Kept S)
      → Found number heap segment found one → found ≡ position_or_len (λ h. h.number == number one.slots)
      (map (holding number records) heap)
  holding_first heap segment found one here =
      here.first ∙ first_there heap segment
      ∙ ap (λ (n : ℕ). position_or_len (λ h. h.number == n) (map (holding number records) heap))
      (sym (number_is number heap segment found one here))

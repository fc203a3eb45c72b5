-- A served free sends its place home, and no other.
use Rattle.std.proofs.Common.{◌≡◌, ◌≢◌, ◌⊎◌, ℕ, ◌%◌, ◌<◌, inl, inr, List, Some, None, sym, ap}
use Rattle.std.proofs.Common.{◌∙◌, slice_set, arith}
use Rattle.std.specs.Prelude.{option_map}
use Rattle.std.proofs.lemmas.Bool.{cases_eq}
use Rattle.hg_place.specs.declared.Actor.{Actor}
use Rattle.hg_place.specs.declared.Handle.{Handle}
use Rattle.hg_place.specs.declared.Place.{Place}
use Rattle.hg_place.specs.declared.standing.Standing.{Standing}
use Rattle.hg_place.specs.declared.standing.Standing.TheVariants.{Home, Open}
use Rattle.hg_place.specs.Lives.{word_owner}
use Rattle.hg_place.specs.Places.{number_of, segment_of}
use Rattle.hg_place.specs.Standings.{standing_at, slot_of}
use Rattle.hg_machine.specs.Policy.{Policy}
use Rattle.hg_segment.specs.Kept.{Kept}
use Rattle.hg_agreement.proofs.Sees.{segment_is}
use Rattle.hg_heap.specs.Freeing.{free_denial}
use Rattle.hg_heap.specs.Held.{segment_in}
use Rattle.hg_heap.specs.Records.{record_in, IsHomeAlone}
use Rattle.hg_heap.proofs.Founds.{Found, at_is, found_after, found_is, number_is}
use Rattle.hg_heap.proofs.FreeCall.{Frees, changed, generation_freed, home_now, was_open}
use Rattle.hg_heap.proofs.PageChanged.{other_found}

module _ {S : Type 0} (number : S → ℕ) (records : S → List Standing) where
  -- the record of a place of a segment that is found
  record_found :
      (items : List (Kept S)) (segment found : ℕ) (one : Kept S) (place : ℕ)
      → Found number items segment found one → segment_of place ≡ segment
      → record_in number records items place
      ≡ Some (standing_at (records one.slots) (place % 8192))
  record_found items segment found one place here is =
      ap (λ (n : ℕ). option_map (λ (k : Kept S). standing_at (records k.slots) (place % 8192))
      (segment_in number items n)) is
      ∙ ap (option_map (λ (k : Kept S). standing_at (records k.slots) (place % 8192)))
      (found_is number items segment found one here)

  record_of :
      (items : List (Kept S)) (place : Place) (found : ℕ) (one : Kept S)
      → Found number items place.segment found one
      → record_in number records items (number_of place)
      ≡ Some (standing_at (records one.slots) (slot_of place))
  record_of items place found one here =
      record_found items place.segment found one (number_of place) here (segment_is place)
      ∙ ap (λ (n : ℕ). Some (standing_at (records one.slots) n)) (at_is place)

other_slot :
    (place : Place) (other : ℕ) → other ≢ number_of place → segment_of other ≡ place.segment
    → other % 8192 ≢ slot_of place
other_slot place other ne is same = ne (omega (arith, is, same))

module _ {S : Type 0} {number : S → ℕ} {records : S → List Standing} {shows : S → ℕ → ℕ → Type 0}
    {steps : S → ℕ → ℕ → ℕ → S → Type 0} {items : List (Kept S)} {found word : ℕ}
    {one after : Kept S} (policy : Policy) (actor : Actor) (handle : Handle)
    (h : Frees number records shows steps items found word handle.place one after)
    (undenied : free_denial policy actor.0 handle word ≡ None) where
  there : Found number (slice_set items found after) handle.place.segment found after
  there =
      found_after number items handle.place.segment found one after h.here h.closed.same_number

  others_stay :
      (place : ℕ) → place ≢ number_of handle.place
      → record_in number records (slice_set items found after) place
      ≡ record_in number records items place
  others_stay place ne = elim (cases_eq (segment_of place) handle.place.segment) [
    | inl is ↦ record_found number records (slice_set items found after) handle.place.segment
        found after place there is
        ∙ ap Some ((changed h).standings (place % 8192) (omega arith)
        (other_slot handle.place place ne is))
        ∙ sym (record_found number records items handle.place.segment found one place h.here is)
    | inr away ↦ ap (option_map (λ (k : Kept S). standing_at (records k.slots) (place % 8192)))
        (other_found number items found (segment_of place) one after h.here.at
        h.closed.same_number
        (λ e. away (e ∙ number_is number items handle.place.segment found one h.here)))
  ]

  pub freed_alone : IsHomeAlone number records handle items (slice_set items found after)
  freed_alone =
      let same = sym (generation_freed policy actor handle h undenied) in
      record {
        owner = word_owner word;
        was = record_of number records items handle.place found one h.here
            ∙ ap Some (was_open h)
            ∙ ap (λ (n : ℕ). Some (Open n (word_owner word))) same;
        home = record_of number records (slice_set items found after) handle.place found after
            there
            ∙ ap Some (home_now h)
            ∙ ap (λ (n : ℕ). Some (Home n)) same;
        others = others_stay;
      }

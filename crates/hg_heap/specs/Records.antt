-- The record of a place by its number, and what a served free leaves of all records.
use Rattle.std.specs.Prelude.{◌≡◌, ◌≢◌, ℕ, ◌%◌, List, Option, Some, option_map}
use Rattle.hg_place.specs.declared.geometry.TheConstants.{SEGMENT_PLACES}
use Rattle.hg_place.specs.declared.Handle.{Handle}
use Rattle.hg_place.specs.declared.standing.Standing.{Standing}
use Rattle.hg_place.specs.declared.standing.Standing.TheVariants.{Home, Open}
use Rattle.hg_place.specs.Places.{number_of, segment_of}
use Rattle.hg_place.specs.Standings.{standing_at}
use Rattle.hg_segment.specs.Kept.{Kept}
use Rattle.hg_heap.specs.Held.{segment_in}

module _ {S : Type 0} (number : S → ℕ) (records : S → List Standing) where
  -- the record of a place, by its number, where its segment is held
  abbrev pub record_in : List (Kept S) → ℕ → Option Standing
  record_in segments place =
      option_map (λ k. standing_at (records k.slots) (place % SEGMENT_PLACES))
      (segment_in number segments (segment_of place))

  -- The place of the handle was open in the handle's life, and is home in its generation; each
  -- other place has the record that it had
  pub record IsHomeAlone (handle : Handle) (old new : List (Kept S)) : Type 0 where
    pub owner : ℕ
    pub was :
        record_in old (number_of handle.place) ≡ Some (Open handle.generation owner)
    pub home : record_in new (number_of handle.place) ≡ Some (Home handle.generation)
    pub others :
        (place : ℕ) → place ≢ number_of handle.place
        → record_in new place ≡ record_in old place

-- What the holder of a segment records of its places, and which word fits a record.
use Rattle.std.specs.Prelude.{◌≡◌, ℕ, ◌+◌, ◌*◌, ◌<◌, ◌≤◌, Bool, true, false, List, slice_index_or}
use Rattle.hg_place.specs.declared.Place.{Place}
use Rattle.hg_place.specs.declared.standing.Standing.{Standing}
use Rattle.hg_place.specs.declared.standing.Standing.TheVariants.{Home, Open}
use Rattle.hg_place.specs.declared.geometry.TheConstants.{PAGE_PLACES}
use Rattle.hg_place.specs.Lives.{word_generation, word_owner, word_life}

-- the number of a place in its segment
abbrev pub slot_of : Place → ℕ
slot_of place = place.page * PAGE_PLACES + place.index

-- the record of the place of a number
abbrev pub standing_at : List Standing → ℕ → Standing
standing_at records at = slice_index_or records at (Home 0)

-- a record says whether the place is home, its generation, and the owner of an open one
abbrev pub is_home : Standing → Bool
is_home (Home generation) = true
is_home (Open generation owner) = false

abbrev pub standing_generation : Standing → ℕ
standing_generation (Home generation) = generation
standing_generation (Open generation owner) = generation

abbrev pub standing_owner : Standing → ℕ
standing_owner (Home generation) = 0
standing_owner (Open generation owner) = owner

-- the word and the record have one generation; at home no block lives; an open place was given out,
-- and word and record have one owner
pub record Fits (standing : Standing) (word : ℕ) : Type 0 where
  pub generation : word_generation word ≡ standing_generation standing
  pub freed : is_home standing ≡ true → word_life word ≡ 0
  pub given_out : is_home standing ≡ false → 1 ≤ standing_generation standing
  pub owner : is_home standing ≡ false → word_owner word ≡ standing_owner standing

-- an open place was given out, to a tenant
pub record IsSane (standing : Standing) : Type 0 where
  pub given_out : is_home standing ≡ false → 1 ≤ standing_generation standing
  pub owner : is_home standing ≡ false → standing_owner standing < 64

-- Places and handles: their numbers, with a dot between one and the next.
use Rattle.std.proofs.Math.Nat.{le-max_left}
use Rattle.std.specs.Prelude.{ℕ, ◌^◌, ◌==◌, max, Bool, List, [], ◌∷◌}
use Rattle.std.specs.Prelude.{Result, Ok, Err, if◌then◌else◌}
use Rattle.std.specs.List.{slice_split}
use Rattle.hg_place.specs.declared.Place.{Place}
use Rattle.hg_place.specs.declared.Handle.{Handle}
use Rattle.hg_place.specs.declared.geometry.TheConstants.{MAX_SEGMENTS, SEGMENT_PAGES, PAGE_PLACES}
use Rattle.hg_place.specs.Places.{place_from}
use Rattle.hg_trace.specs.declared.fault.LineFault.{LineFault}
use Rattle.hg_trace.specs.declared.fault.LineFault.TheVariants as fault
use Rattle.hg_trace.specs.Faults.{◌>>=◌}
use Rattle.hg_trace.specs.Operands.{number_operand, no_operand}

abbrev pub is_dot : ℕ → Bool
is_dot b = b == 46

-- what stands between the dots, from each to the next
abbrev pub parts_of : List ℕ → List (List ℕ)
parts_of text = slice_split is_dot text

-- the handle of a place and a number. That a generation is at least 1 is part of a handle; of such
-- a number it is the number itself
abbrev pub handle_from : Place → ℕ → Handle
handle_from place generation = record {
  place = place;
  generation = max 1 generation;
  given_out = le-max_left 1 generation;
}

-- segment, page and index
unfoldable pub place_in : List (List ℕ) → Result (Place × List (List ℕ)) LineFault
place_in parts = do
  segment ← number_operand MAX_SEGMENTS parts
  page ← number_operand SEGMENT_PAGES segment.1
  index ← number_operand PAGE_PLACES page.1
  Ok (place_from segment.0 page.0 index.0, index.1)

-- a generation is at least 1
unfoldable pub generation_in : List (List ℕ) → Result (ℕ × List (List ℕ)) LineFault
generation_in parts = do
  generation ← number_operand (2 ^ 32) parts
  if generation.0 == 0 then Err fault.Operand else Ok generation

-- the place that a text is
unfoldable pub place_of : List ℕ → Result Place LineFault
place_of text = do
  place ← place_in (parts_of text)
  end ← no_operand place.1
  Ok place.0

-- the handle that the text behind an `@` is
unfoldable pub handle_of : List ℕ → Result Handle LineFault
handle_of text = do
  place ← place_in (parts_of text)
  generation ← generation_in place.1
  end ← no_operand generation.1
  Ok (handle_from place.0 generation.0)

-- as an operand
unfoldable pub place_operand : List (List ℕ) → Result (Place × List (List ℕ)) LineFault
place_operand [] = Err fault.Operand
place_operand (word ∷ words) = place_of word >>= λ place. Ok (place, words)

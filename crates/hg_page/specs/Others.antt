-- The words that a page leaves alone.
use Rattle.std.specs.Prelude.{◌≡◌, ◌≢◌, ℕ, List, slice_index, Contains}
use Rattle.hg_page.specs.Shapes.{Shape, start_of}

-- no word changed but the first ones of the blocks of these indexes
abbrev pub KeepsOthers : Shape → List ℕ → List ℕ → List ℕ → Type 0
KeepsOthers shape indexes old new =
    (at : ℕ) → ((index : ℕ) → Contains indexes index → at ≢ start_of shape index)
    → slice_index new at ≡ slice_index old at

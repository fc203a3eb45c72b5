-- A list that others' values are written over.
use Rattle.std.specs.Prelude.{ℕ, ◌+◌, List, [], ◌∷◌, slice_set}

-- the values written one after another from a place on
abbrev pub overlaid : {T : Type 0} → List T → ℕ → List T → List T
overlaid old from [] = old
overlaid old from (v ∷ vs) = overlaid (slice_set old from v) (from + 1) vs

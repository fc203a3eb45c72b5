-- The blocks of an owner that a worker holds.
use Rattle.std.specs.Prelude.{◌≡◌, ℕ, ◌==◌, List, [], ◌∷◌, map, filter, Option, Some, None}
use Rattle.hg_place.specs.declared.Handle.{Handle}
use Rattle.hg_place.specs.Places.{number_of}
use Rattle.hg_machine.specs.State.{State}
use Rattle.hg_machine.specs.Listing.{Line, line_at, is_listed}

-- Of these places, the lines of the owner's own blocks that the worker holds: what the owner itself
-- is listed there, without the blocks of others
abbrev pub own_lines : State → ℕ → ℕ → List ℕ → List Line
own_lines s worker owner places =
    filter (λ line. line.owner == owner) (map (line_at s) (filter (is_listed s worker owner) places))

-- which life of which place
abbrev pub life_of_line : Line → ℕ × ℕ
life_of_line line = (line.place, line.generation)

abbrev pub life_of : Handle → ℕ × ℕ
life_of handle = (number_of handle.place, handle.generation)

-- the owner's own block at a place, if the worker holds one there
abbrev pub IsOwnBlock : State → ℕ → ℕ → ℕ → Option Handle → Type 0
IsOwnBlock s worker owner place None = own_lines s worker owner (place ∷ []) ≡ []
IsOwnBlock s worker owner place (Some handle) =
    (number_of handle.place ≡ place)
    × (map life_of_line (own_lines s worker owner (place ∷ [])) ≡ life_of handle ∷ [])

-- A list with one element more.
use Rattle.std.specs.Prelude.{◌≡◌, List, ◌∷◌, ◌++◌}

-- the new list is the old one with the element put in somewhere
abbrev pub Inserts : {X : Type 0} → X → List X → List X → Type 0
Inserts {X} x old new =
    (front : List X) × (back : List X) × (old ≡ front ++ back) × (new ≡ front ++ x ∷ back)

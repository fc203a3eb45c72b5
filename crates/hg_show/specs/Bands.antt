-- Owners in bands, so that no line of the matrix is long.
use Rattle.std.specs.Prelude.{ℕ, ◌+◌, ◌==◌, ◌++◌, ◌&&◌, Bool, not, List, [], ◌∷◌, length, max}
use Rattle.std.specs.Prelude.{nat_lt, if◌then◌else◌}
use Rattle.std.specs.List.{sum_by}
use Rattle.hg_machine.specs.Policy.{Policy}
use Rattle.hg_show.specs.Parts.{name_of, tenants_in}

-- an owner's column: a blank, and then its name or four marks
abbrev pub column_width : Policy → ℕ → ℕ
column_width policy owner = 1 + max (length (name_of policy owner)) 4

-- a line has the head of a row and a column for each owner
abbrev pub line_width : Policy → List ℕ → ℕ
line_width policy band = 18 + sum_by (column_width policy) band

-- the band has an owner, and with one more its lines would be longer than 100
abbrev pub is_full : Policy → List ℕ → ℕ → Bool
is_full policy band owner =
    not (length band == 0) && nat_lt 100 (line_width policy band + column_width policy owner)

-- the owners that are in a band and those behind them, in bands: each next one goes into the band,
-- or into a new one where that is full
abbrev pub bands_from : Policy → List ℕ → List ℕ → List (List ℕ)
bands_from policy band [] = band ∷ []
bands_from policy band (owner ∷ owners) =
    if is_full policy band owner then band ∷ bands_from policy (owner ∷ []) owners
    else bands_from policy (band ++ owner ∷ []) owners

abbrev pub bands : Policy → List (List ℕ)
bands policy = bands_from policy [] (tenants_in policy)

-- Who may do what with whose blocks, as text.
use Rattle.std.specs.Prelude.{ℕ, ◌++◌, List, [], ◌∷◌, codes, length}
use Rattle.std.specs.List.{flat_map}
use Rattle.hg_place.specs.declared.Right.{Right}
use Rattle.hg_place.specs.declared.Right.TheVariants as right
use Rattle.hg_machine.specs.Policy.{Policy}
use Rattle.hg_show.specs.declared.standings.Standing.{Standing}
use Rattle.hg_show.specs.declared.standings.Standing.TheVariants as standing
use Rattle.hg_show.specs.Bands.{bands}
use Rattle.hg_show.specs.Parts.{name_of, tenants_in}
use Rattle.hg_show.specs.Pieces.{before_blanks, behind_blanks}
use Rattle.hg_show.specs.Standings.{standing_of}

abbrev pub letter_of : Right → ℕ
letter_of right.Read = 114
letter_of right.Write = 119
letter_of right.List = 108
letter_of right.Free = 102

-- the letter of a right that one has, `.` where it is of no use, `-` where it isn't granted, and
-- `!` where it is denied
abbrev pub mark_of : ℕ → Standing → ℕ
mark_of letter standing.Granted = letter
mark_of letter standing.Apart = 46
mark_of letter standing.NotGranted = 45
mark_of letter standing.Denied = 33

abbrev pub mark : Policy → ℕ → ℕ → Right → ℕ
mark policy owner actor right = mark_of (letter_of right) (standing_of policy owner actor right)

-- how an actor stands to the blocks of an owner
unfoldable pub cell : Policy → ℕ → ℕ → List ℕ
cell policy owner actor =
    mark policy owner actor right.Read ∷ mark policy owner actor right.Write
    ∷ mark policy owner actor right.List ∷ mark policy owner actor right.Free ∷ []

-- a column has the owner's name above, and goes to where that ends
unfoldable pub column_head : Policy → ℕ → List ℕ
column_head policy owner = codes " " ++ behind_blanks 4 (name_of policy owner)

unfoldable pub column : Policy → ℕ → ℕ → List ℕ
column policy actor owner =
    codes " " ++ behind_blanks (length (name_of policy owner)) (cell policy owner actor)

-- a row is an actor's, and has the columns of a band
unfoldable pub actor_line : Policy → List ℕ → ℕ → List ℕ
actor_line policy band actor =
    codes "  " ++ before_blanks 16 (name_of policy actor)
    ++ flat_map (column policy actor) band ++ codes "\n"

-- a band has a line of heads, and each actor's row
unfoldable pub band_text : Policy → List ℕ → List ℕ
band_text policy band =
    codes "                  " ++ flat_map (column_head policy) band ++ codes "\n"
    ++ flat_map (actor_line policy band) (tenants_in policy)

-- an empty line stands between a band and the next
unfoldable pub next_band_text : Policy → List ℕ → List ℕ
next_band_text policy band = codes "\n" ++ band_text policy band

abbrev pub bands_text : Policy → List (List ℕ) → List ℕ
bands_text policy [] = []
bands_text policy (band ∷ bands) = band_text policy band ++ flat_map (next_band_text policy) bands

unfoldable pub matrix_text : Policy → List ℕ
matrix_text policy =
    codes "\nrights of each (row) on the blocks of each (column)\n"
    ++ codes "r read, w write, l list, f free, - not granted, ! denied, . no arena in common\n"
    ++ bands_text policy (bands policy)

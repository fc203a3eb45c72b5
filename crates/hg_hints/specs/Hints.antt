-- What is told behind the line of a policy's fault.
use Rattle.std.specs.Prelude.{◌≡◌, ◌≤◌, ◌+◌, ◌++◌, ℕ, List, [], Option, Some, None, Ok, Err, codes, decimal}
use Rattle.std.specs.Prelude.{length, take}
use Rattle.toml.specs.Data.{Members}
use Rattle.hg_machine.specs.Policy.{Policy}
use Rattle.hg_policy_text.specs.Document.{policy_at, tree_of}
use Rattle.hg_policy_text.specs.Faults.{Read}
use Rattle.hg_policy_text.specs.FaultyRow.{row_at}
use Rattle.hg_policy_text.specs.Keys.{key_text}
use Rattle.hg_policy_text.specs.declared.row.Row.{Row}
use Rattle.hg_hints.specs.Reasons.{reason}
use Rattle.hg_hints.specs.Spots.{spot_behind}
use Rattle.hg_hints.specs.declared.spot.Spot.{Spot}

-- a line of its own, behind two blanks
abbrev pub hint_line : List ℕ → List ℕ
hint_line told = codes "  " ++ told ++ codes "\n"

-- where TOML refuses a text, and why
unfoldable pub refused_text : Spot → List ℕ → List ℕ
refused_text spot why =
    codes "line " ++ decimal spot.line ++ codes ", column " ++ decimal spot.column ++ codes ": " ++ why

-- where some bytes are no TOML: some place of them, and a reason that the reader of TOML gives
abbrev pub IsRefused : List ℕ → List ℕ → Type 0
IsRefused bytes hint =
    (at : ℕ) × (why : List ℕ) × (at ≤ length bytes)
    × (hint ≡ hint_line (refused_text (spot_behind (take at bytes)) why))

-- in which row of a table, counted from 1
unfoldable pub row_text : Row → List ℕ
row_text row =
    codes "in " ++ key_text row.table ++ codes " " ++ decimal (row.number + 1)
    ++ codes " of " ++ decimal row.rows ++ codes ": "

abbrev pub place_text : Option Row → List ℕ
place_text None = []
place_text (Some row) = row_text row

-- of a document: nothing where it means a policy, and else the row of its fault, if it is of one, and
-- what is told of that
abbrev pub told_of : Members → Read Policy → List ℕ
told_of document (Ok policy) = []
told_of document (Err fault) = hint_line (place_text (row_at document) ++ reason document fault)

abbrev pub IsHintOf : List ℕ → Option Members → List ℕ → Type 0
IsHintOf bytes None hint = IsRefused bytes hint
IsHintOf bytes (Some document) hint = hint ≡ told_of document (policy_at document)

abbrev pub IsHint : List ℕ → List ℕ → Type 0
IsHint bytes hint = IsHintOf bytes (tree_of bytes) hint

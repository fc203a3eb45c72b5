-- The rows of a document, by key.
use Rattle.std.specs.Prelude.{ℕ, ◌==◌, Bool, List, [], Option, Some, None, map, codes, length}
use Rattle.std.specs.Prelude.{unwrap_or}
use Rattle.toml.specs.Data.{Data, Items, Members, as_array, as_str, as_table, get_member}
use Rattle.hg_policy_text.specs.Values.{elements}

abbrev pub elements_or_none : Option Items → List Data
elements_or_none None = []
elements_or_none (Some items) = elements items

-- the elements of the array at a key, which are none where no array is there
abbrev pub rows_in : Option Data → List Data
rows_in None = []
rows_in (Some value) = elements_or_none (as_array value)

abbrev pub rows_at : List ℕ → Members → List Data
rows_at key document = rows_in (get_member key document)

-- and those of the array at a key of a row
abbrev pub rows_under : List ℕ → Option Members → List Data
rows_under key None = []
rows_under key (Some row) = rows_at key row

abbrev pub elements_at : List ℕ → Data → List Data
elements_at key row = rows_under key (as_table row)

abbrev pub is_empty_at : List ℕ → Data → Bool
is_empty_at key row = length (elements_at key row) == 0

-- the text that a value is, which is empty for another value
abbrev pub text_of : Data → List ℕ
text_of value = unwrap_or (as_str value) []

-- the text at a key of a row, which is empty where none is there
abbrev pub text_in : Option Data → List ℕ
text_in None = []
text_in (Some value) = text_of value

abbrev pub field_in : List ℕ → Option Members → Option Data
field_in key None = None
field_in key (Some row) = get_member key row

abbrev pub text_at : List ℕ → Data → List ℕ
text_at key row = text_in (field_in key (as_table row))

-- the names of rows, and those of arenas, in the order of their rows
abbrev pub names_in : List Data → List (List ℕ)
names_in rows = map (text_at (codes "name")) rows

abbrev pub arena_names : Members → List (List ℕ)
arena_names document = names_in (rows_at (codes "arena") document)

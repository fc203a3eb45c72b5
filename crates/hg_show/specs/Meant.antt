-- For whom a name in a row stands.
use Rattle.std.specs.Prelude.{ℕ, ◌&&◌, ◌||◌, Bool, List, codes}
use Rattle.std.specs.List.{filter, list_any}
use Rattle.std.specs.Str.{bytes_eq}
use Rattle.toml.specs.Data.{Data}
use Rattle.hg_machine.specs.Policy.{Policy}
use Rattle.hg_show.specs.Parts.{name_of, tenants_in}
use Rattle.hg_show.specs.Rows.{elements_at, text_at, text_of}

-- a value is this text
abbrev pub is_text : List ℕ → Data → Bool
is_text text value = bytes_eq (text_of value) text

-- the row is of a group of this name, and has the tenant among its members
abbrev pub has_member : List ℕ → List ℕ → Data → Bool
has_member name tenant group =
    bytes_eq (text_at (codes "name") group) name
    && list_any (is_text tenant) (elements_at (codes "members") group)

-- a name stands for the tenant that has it, and for each member of a group that has it
abbrev pub stands_for : List Data → List ℕ → List ℕ → Bool
stands_for groups name tenant = bytes_eq tenant name || list_any (has_member name tenant) groups

-- the tenants for whom it stands
abbrev pub is_meant : Policy → List Data → List ℕ → ℕ → Bool
is_meant policy groups name tenant = stands_for groups name (name_of policy tenant)

abbrev pub meant : Policy → List Data → List ℕ → List ℕ
meant policy groups name = filter (is_meant policy groups name) (tenants_in policy)

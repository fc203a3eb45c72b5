-- Lines that grant and deny and can't be of use.
use Rattle.std.specs.Prelude.{ℕ, ◌==◌, ◌++◌, ◌&&◌, Bool, not, List, codes, decimal}
use Rattle.std.specs.List.{list_any}
use Rattle.toml.specs.Data.{Data}
use Rattle.hg_machine.specs.Policy.{Policy}
use Rattle.hg_show.specs.Meant.{meant}
use Rattle.hg_show.specs.Rows.{text_at}
use Rattle.hg_show.specs.Standings.{may_share}

-- what a line says of an owner and an actor by their numbers
abbrev pub is_other : ℕ → ℕ → Bool
is_other owner actor = not (actor == owner)

abbrev pub is_itself : ℕ → ℕ → Bool
is_itself owner actor = actor == owner

abbrev pub shares : Policy → ℕ → ℕ → Bool
shares policy owner actor = is_other owner actor && may_share policy owner actor

-- it has another tenant among its actors than some owner, and some owner among its actors
abbrev pub has_other : List ℕ → ℕ → Bool
has_other actors owner = list_any (is_other owner) actors

abbrev pub has_itself : List ℕ → ℕ → Bool
has_itself actors owner = list_any (is_itself owner) actors

abbrev pub shares_with_some : Policy → List ℕ → ℕ → Bool
shares_with_some policy actors owner = list_any (shares policy owner) actors

-- it is to other tenants than its owners, and none of them may share a segment with an owner
abbrev pub is_apart : Policy → List ℕ → List ℕ → Bool
is_apart policy owners actors =
    list_any (has_other actors) owners
    && not (list_any (shares_with_some policy actors) owners)

-- it is to an owner, and to no other tenant
abbrev pub is_to_itself : List ℕ → List ℕ → Bool
is_to_itself owners actors =
    list_any (has_itself actors) owners && not (list_any (has_other actors) owners)

-- those whom the row means
abbrev pub owners_in : Policy → List Data → Data → List ℕ
owners_in policy groups row = meant policy groups (text_at (codes "owner") row)

abbrev pub actors_in : Policy → List Data → Data → List ℕ
actors_in policy groups row = meant policy groups (text_at (codes "to") row)

-- its place among the rows, from 1 on, and its names
unfoldable pub line_name : ℕ → Data → List ℕ
line_name place row =
    decimal place ++ codes " (" ++ text_at (codes "owner") row
    ++ codes " to " ++ text_at (codes "to") row ++ codes ")"

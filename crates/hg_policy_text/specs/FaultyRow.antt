-- The row at which the first fault of a document stands.
use Rattle.std.specs.Prelude.{ℕ, ◌+◌, List, [], length, take, Option, Some, None}
use Rattle.std.specs.Prelude.{◌≡◌, Result, Ok, Err, IsSome, option_map, position, is_err}
use Rattle.std.specs.Prelude.{if◌then◌else◌}
use Rattle.std.specs.Option.{option_and_then}
use Rattle.std.specs.List.{range_with_len}
use Rattle.toml.specs.Data.{Data, Members}
use Rattle.hg_machine.specs.Policy.{Tenant}
use Rattle.hg_policy_text.specs.declared.key.Key.{Key}
use Rattle.hg_policy_text.specs.declared.key.Key.TheVariants as key
use Rattle.hg_policy_text.specs.declared.row.Row.{Row}
use Rattle.hg_policy_text.specs.Keys.{has_rows}
use Rattle.hg_policy_text.specs.declared.fault.PolicyFault.{PolicyFault}
use Rattle.hg_policy_text.specs.Faults.{Fault, Read, in_turn, kind, fault_of}
use Rattle.hg_policy_text.specs.Values.{field_at, elements_in, with_table}
use Rattle.hg_policy_text.specs.Tenants.{tenants_in}
use Rattle.hg_policy_text.specs.Groups.{Group, groups_in}
use Rattle.hg_policy_text.specs.Arenas.{arenas_in}
use Rattle.hg_policy_text.specs.Lines.{lines_in}
use Rattle.hg_policy_text.specs.Heads.{Heads}
use Rattle.hg_policy_text.specs.Document.{heads_in, tree_of}

-- the first row such that the rows up to it, it among them, are refused
abbrev pub first_refused : {A X : Type 0} → (List X → Read A) → List X → Option ℕ
first_refused read rows =
    position (λ n. is_err (read (take (n + 1) rows))) (range_with_len 0 (length rows))

abbrev pub row_in : {A X : Type 0} → Key → (List X → Read A) → List X → Option Row
row_in table read rows =
    option_map (λ n. record { table = table; number = n; rows = length rows })
    (first_refused read rows)

-- the row of a table that is refused, else what is told by what the table gave
abbrev pub row_or : {A : Type 0} → Option Row → (A → Option Row) → Read A → Option Row
row_or row told (Ok given) = told given
row_or row told (Err fault) = row

abbrev pub row_from :
    {A : Type 0} → Key → (List Members → Read A) → List Members → (A → Option Row) → Option Row
row_from table read rows told = row_or (row_in table read rows) told (read rows)

-- the tables in the order in which they are read, each with what those before it gave
abbrev pub row_of_lines : List Tenant → List Group → Heads → Option Row
row_of_lines tenants groups heads =
    row_from key.Grant (lines_in tenants groups) heads.grants
    (λ grants. row_in key.Deny (lines_in tenants groups) heads.denies)

abbrev pub row_behind_groups : List Tenant → List Group → Heads → Option Row
row_behind_groups tenants groups heads =
    row_from key.Arena (arenas_in tenants groups) heads.arenas
    (λ arenas. row_of_lines tenants groups heads)

abbrev pub row_behind_tenants : List Tenant → Heads → Option Row
row_behind_tenants tenants heads =
    row_from key.Group (groups_in tenants) heads.groups
    (λ groups. row_behind_groups tenants groups heads)

abbrev pub row_of_tables : Heads → Option Row
row_of_tables heads =
    row_from key.Tenant tenants_in heads.tenants (λ tenants. row_behind_tenants tenants heads)

-- the first element of an array that is no table
abbrev pub element_in : Key → Option Data → Option Row
element_in table None = None
element_in table (Some value) =
    row_or None (row_in table (in_turn (with_table table) [])) (elements_in table value)

-- of the faults before any entry is read just these are of a row
abbrev pub row_of_fault : Members → Fault → Option Row
row_of_fault document (kind table) =
    if has_rows table then element_in table (field_at table document) else None
row_of_fault document _ = None

abbrev pub row_of_heads : Members → Read Heads → Option Row
row_of_heads document (Ok heads) = row_of_tables heads
row_of_heads document (Err fault) = row_of_fault document fault

abbrev pub row_at : Members → Option Row
row_at members = row_of_heads members (heads_in members)

abbrev pub faulty_row : List ℕ → Option Row
faulty_row text = option_and_then row_at (tree_of text)

-- a call gave this, or nothing where the document has a fault; memory didn't run out
abbrev pub Tells : {X : Type 0} → Result X PolicyFault → Option X → Type 0
Tells (Ok x) found = found ≡ Some x
Tells (Err e) found = (found ≡ None) × IsSome (fault_of e)

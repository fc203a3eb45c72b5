-- The values at keys.
use Rattle.std.specs.Prelude.{◌&&◌, ◌||◌, ◌++◌, ℕ, pos, Bool, true, List, [], ◌∷◌, length}
use Rattle.std.specs.Prelude.{Option, Some, None, Ok, Err, nat_lt, nat_le, if◌then◌else◌, codes}
use Rattle.std.specs.Str.{bytes_eq}
use Rattle.toml.specs.Data.{Data, Items, Members, integer, array, table, no_items, item}
use Rattle.toml.specs.Data.{no_members, member, get_member}
use Rattle.hg_policy_text.specs.declared.key.Key.{Key}
use Rattle.hg_policy_text.specs.declared.key.Counted.{Counted}
use Rattle.hg_policy_text.specs.declared.key.Level.{Level}
use Rattle.hg_policy_text.specs.declared.key.Level.TheVariants as level
use Rattle.hg_policy_text.specs.Keys.{key_text}
use Rattle.hg_policy_text.specs.Faults.{Read, ◌>>=◌, in_turn, or_fault, missing, kind, unknown, too_many}

abbrev pub field_at : Key → Members → Option Data
field_at key members = get_member (key_text key) members

unfoldable pub value_at : Key → Members → Read Data
value_at key members = or_fault (missing key) (field_at key members)

-- what stands at a key that may be left out
abbrev pub or_else : {A : Type 0} → A → (Data → Read A) → Option Data → Read A
or_else plain read None = Ok plain
or_else plain read (Some value) = read value

-- a whole number in a range
abbrev pub whole_in : Key → ℕ → ℕ → Data → Read ℕ
whole_in key low high (integer (pos n)) =
    if nat_le low n && nat_le n high then Ok n else Err (kind key)
whole_in key low high _ = Err (kind key)

unfoldable pub whole_at : Key → ℕ → ℕ → Members → Read ℕ
whole_at key low high members = value_at key members >>= whole_in key low high

-- the keys that a table may have
abbrev pub knows : Level → List ℕ → Bool
knows level.Top key =
    bytes_eq key (codes "version") || (bytes_eq key (codes "workers")
    || (bytes_eq key (codes "max_generation") || (bytes_eq key (codes "tenant")
    || (bytes_eq key (codes "arena") || bytes_eq key (codes "grant")))))
knows level.SecondTop key =
    bytes_eq key (codes "version") || (bytes_eq key (codes "workers")
    || (bytes_eq key (codes "max_generation") || (bytes_eq key (codes "tenant")
    || (bytes_eq key (codes "arena") || (bytes_eq key (codes "grant")
    || (bytes_eq key (codes "group") || bytes_eq key (codes "deny")))))))
knows level.Tenant key = bytes_eq key (codes "name") || bytes_eq key (codes "limit")
knows level.Group key = bytes_eq key (codes "name") || bytes_eq key (codes "members")
knows level.Arena key =
    bytes_eq key (codes "name") || (bytes_eq key (codes "segments")
    || bytes_eq key (codes "exclusive"))
knows level.Grant key =
    bytes_eq key (codes "owner") || (bytes_eq key (codes "to") || bytes_eq key (codes "rights"))

-- the first key that it may not have, as keys stand in byte order
unfoldable pub first_unknown : Level → Members → Option (List ℕ)
first_unknown level no_members = None
first_unknown level (member key value rest) =
    if knows level key then first_unknown level rest else Some key

abbrev pub none_unknown : Option (List ℕ) → Read Bool
none_unknown None = Ok true
none_unknown (Some key) = Err (unknown key)

unfoldable pub known_keys : Level → Members → Read Bool
known_keys level members = none_unknown (first_unknown level members)

-- an array's elements
abbrev pub elements : Items → List Data
elements no_items = []
elements (item value rest) = value ∷ elements rest

abbrev pub elements_in : Key → Data → Read (List Data)
elements_in key (array items) = Ok (elements items)
elements_in key _ = Err (kind key)

-- one more table
abbrev pub with_table : Key → List Members → Data → Read (List Members)
with_table key done (table members) = Ok (done ++ members ∷ [])
with_table key done _ = Err (kind key)

-- the entries of an array of tables
unfoldable pub entries_in : Key → Data → Read (List Members)
entries_in key value = elements_in key value >>= λ entries. in_turn (with_table key) [] entries

abbrev pub at_most : ℕ → Counted → List Members → Read (List Members)
at_most most counted entries =
    if nat_lt most (length entries) then Err (too_many counted) else Ok entries

unfoldable pub entries_at : Key → Counted → ℕ → Members → Read (List Members)
entries_at key counted most members =
    value_at key members >>= entries_in key >>= at_most most counted

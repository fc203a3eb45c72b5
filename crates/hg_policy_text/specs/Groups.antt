-- The entries of groups, and what a name stands for.
use Rattle.std.specs.Prelude.{ℕ, ◌||◌, Bool, List, [], ◌∷◌, ◌++◌, length, map, Option}
use Rattle.std.specs.Prelude.{Some, None, option_map, position, Ok, Err, if◌then◌else◌}
use Rattle.std.specs.Option.{option_or}
use Rattle.std.specs.Str.{bytes_eq}
use Rattle.toml.specs.Data.{Data, Members, string}
use Rattle.hg_machine.specs.Policy.{Tenant}
use Rattle.hg_policy_text.specs.declared.key.Key.{Key}
use Rattle.hg_policy_text.specs.declared.key.Key.TheVariants as key
use Rattle.hg_policy_text.specs.declared.key.Level.TheVariants as level
use Rattle.hg_policy_text.specs.Faults.{Read, ◌>>=◌, in_turn, or_fault, kind, repeated, no_such_name}
use Rattle.hg_policy_text.specs.Values.{value_at, known_keys, elements_in}
use Rattle.hg_policy_text.specs.Tenants.{number_in}
use Rattle.hg_policy.specs.Names.{tenant_names}
use Rattle.hg_policy.specs.TenantSets.{just, either}
use Rattle.hg_policy_text.specs.NameForm.{name_at}
use Rattle.hg_policy.specs.Names.{is_among}

-- a group: its name, and of each tenant whether it is a member
pub record Group : Type 0 where
  pub name : List ℕ
  pub members : List Bool

abbrev pub group_names : List Group → List (List ℕ)
group_names groups = map (λ group. group.name) groups

-- one more member, which is a tenant
abbrev pub and_member : List Tenant → List Bool → Data → Read (List Bool)
and_member tenants done value =
    number_in key.Members tenants value
    >>= λ tenant. Ok (either (length tenants) done (just (length tenants) (tenant ∷ [])))

abbrev pub group_members_in : List Tenant → Data → Read (List Bool)
group_members_in tenants value =
    elements_in key.Members value
    >>= λ names. in_turn (and_member tenants) (just (length tenants) []) names

-- one more group, whose name no tenant has and no group before it
abbrev pub with_group : List Tenant → List Group → List ℕ → List Bool → Read (List Group)
with_group tenants done name members =
    if is_among name (tenant_names tenants) || is_among name (group_names done)
    then Err (repeated name)
    else Ok (done ++ record { name = name; members = members } ∷ [])

unfoldable pub group_at : List Tenant → List Group → Members → Read (List Group)
group_at tenants done entry = do
  known ← known_keys level.Group entry
  name ← name_at key.Name entry
  value ← value_at key.Members entry
  members ← group_members_in tenants value
  with_group tenants done name members

unfoldable pub groups_in : List Tenant → List Members → Read (List Group)
groups_in tenants entries = in_turn (group_at tenants) [] entries

-- for whom a name stands, of each tenant: for that tenant alone, or for the members of a group
abbrev pub tenant_named : List Tenant → List ℕ → Option (List Bool)
tenant_named tenants text =
    option_map (λ tenant. just (length tenants) (tenant ∷ []))
    (position (λ tenant. bytes_eq text tenant.name) tenants)

abbrev pub group_named : List Group → List ℕ → Option (List Bool)
group_named [] text = None
group_named (group ∷ groups) text =
    if bytes_eq text group.name then Some group.members else group_named groups text

abbrev pub named_in : Key → List Tenant → List Group → Data → Read (List Bool)
named_in key tenants groups (string text) =
    or_fault (no_such_name text) (option_or (tenant_named tenants text) (group_named groups text))
named_in key tenants groups _ = Err (kind key)

unfoldable pub named_at : Key → List Tenant → List Group → Members → Read (List Bool)
named_at key tenants groups entry = value_at key entry >>= named_in key tenants groups

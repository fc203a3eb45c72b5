-- The entries of tenants.
use Rattle.std.specs.Prelude.{ℕ, List, [], ◌∷◌, ◌++◌, Ok, Err, if◌then◌else◌}
use Rattle.std.specs.Prelude.{position}
use Rattle.std.specs.Str.{bytes_eq}
use Rattle.toml.specs.Data.{Data, Members, string}
use Rattle.hg_machine.specs.Policy.{Tenant}
use Rattle.hg_policy_text.specs.declared.key.Key.{Key}
use Rattle.hg_policy_text.specs.declared.key.Key.TheVariants as key
use Rattle.hg_policy_text.specs.declared.key.Level.TheVariants as level
use Rattle.hg_policy_text.specs.Faults.{Read, ◌>>=◌, in_turn, or_fault, kind, repeated}
use Rattle.hg_policy_text.specs.Faults.{no_such_name}
use Rattle.hg_policy_text.specs.Values.{known_keys, whole_at}
use Rattle.hg_policy_text.specs.NameForm.{name_at}
use Rattle.hg_policy.specs.Names.{is_among, tenant_names}

-- one more tenant, whose name no tenant before it has
abbrev pub with_tenant : List Tenant → List ℕ → ℕ → Read (List Tenant)
with_tenant done name limit =
    if is_among name (tenant_names done) then Err (repeated name)
    else Ok (done ++ record { name = name; limit = limit } ∷ [])

unfoldable pub tenant_at : List Tenant → Members → Read (List Tenant)
tenant_at done entry = do
  known ← known_keys level.Tenant entry
  name ← name_at key.Name entry
  limit ← whole_at key.Limit 0 4294967295 entry
  with_tenant done name limit

unfoldable pub tenants_in : List Members → Read (List Tenant)
tenants_in entries = in_turn tenant_at [] entries

-- the number of the tenant that a text names
abbrev pub number_in : Key → List Tenant → Data → Read ℕ
number_in key tenants (string text) =
    or_fault (no_such_name text) (position (λ tenant. bytes_eq text tenant.name) tenants)
number_in key tenants _ = Err (kind key)

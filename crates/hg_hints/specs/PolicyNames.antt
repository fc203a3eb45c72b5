-- Names of a policy, and one that is like another.
use Rattle.std.specs.Prelude.{◌++◌, ℕ, List, [], Option, Some, None, codes, length, map, unwrap_or}
use Rattle.std.specs.List.{range_with_len}
use Rattle.hg_machine.specs.Policy.{Policy}
use Rattle.hg_policy.specs.Names.{arena_name, tenant_name}
use Rattle.hg_hints.specs.declared.policy_names.Kind.{Kind}
use Rattle.hg_hints.specs.declared.policy_names.Kind.TheVariants as kind
use Rattle.hg_hints.specs.Near.{near}

-- the names that a policy has of a kind
abbrev pub tenant_at : Policy → ℕ → List ℕ
tenant_at policy number = unwrap_or (tenant_name policy number) []

abbrev pub arena_at : Policy → ℕ → List ℕ
arena_at policy number = unwrap_or (arena_name policy number) []

abbrev pub names_of : Policy → Kind → List (List ℕ)
names_of policy kind.Tenant = map (tenant_at policy) (range_with_len 0 (length policy.tenants))
names_of policy kind.Arena = map (arena_at policy) (range_with_len 0 (length policy.arenas))

-- a name that is like the one that is lacked, if the policy has one
unfoldable pub near_text : Option (List ℕ) → List ℕ
near_text None = []
near_text (Some name) = codes " (" ++ name ++ codes "?)"

abbrev pub near_to : Policy → Kind → List ℕ → Option (List ℕ)
near_to policy kind name = near (names_of policy kind) name

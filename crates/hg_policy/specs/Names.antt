-- Names and numbers of tenants and arenas.
use Rattle.std.specs.Prelude.{ℕ, Bool, List, Option, map, option_map, position, slice_get}
use Rattle.std.specs.List.{list_any}
use Rattle.std.specs.Str.{bytes_eq}
use Rattle.hg_machine.specs.Policy as meaning

-- the number of the tenant, or of the arena, of a name
abbrev pub tenant_number : meaning.Policy → List ℕ → Option ℕ
tenant_number policy name = position (λ tenant. bytes_eq name tenant.name) policy.tenants

abbrev pub arena_number : meaning.Policy → List ℕ → Option ℕ
arena_number policy name = position (λ arena. bytes_eq name arena) policy.arenas

abbrev pub tenant_name : meaning.Policy → ℕ → Option (List ℕ)
tenant_name policy tenant = option_map (λ one. one.name) (slice_get policy.tenants tenant)

abbrev pub arena_name : meaning.Policy → ℕ → Option (List ℕ)
arena_name policy arena = slice_get policy.arenas arena

abbrev pub tenant_names : List meaning.Tenant → List (List ℕ)
tenant_names tenants = map (λ tenant. tenant.name) tenants

abbrev pub is_among : List ℕ → List (List ℕ) → Bool
is_among name names = list_any (λ other. bytes_eq name other) names

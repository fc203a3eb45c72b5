-- What the tables that are kept of a policy stand for.
use Rattle.std.specs.Prelude.{ℕ, Bool, List, length, map, take, String, string_bytes}
use Rattle.std.specs.declared.alloc.Global.{Global}
use Rattle.hg_machine.specs.Policy as meaning
use Rattle.hg_policy.specs.Rights.{rights_of}
use Rattle.hg_policy.specs.declared.rights.Rights.{Rights}
use Rattle.hg_policy.specs.declared.granted.Standing.{Standing}
use Rattle.hg_policy.specs.TenantSets.{flags_of}
use Rattle.hg_policy.specs.declared.tenant_set.TenantSet.{TenantSet}
use Rattle.hg_policy.specs.declared.policy.Policy.TheInside.{Inside}

-- names with something beside each, by number
abbrev pub Named : Type 0 → Type 0
Named A = List (String Global × A)

abbrev pub tenants_of : Named ℕ → List meaning.Tenant
tenants_of named = map (λ one. record { name = string_bytes one.0; limit = one.1 }) named

abbrev pub names_of : {A : Type 0} → Named A → List (List ℕ)
names_of named = map (λ one. string_bytes one.0) named

-- which of so many tenants each arena admits, beside its name
abbrev pub admitted_of : ℕ → Named TenantSet → List (List Bool)
admitted_of tenants named = map (λ one. flags_of tenants one.1) named

-- the rights of so many actors, in rows by owner
abbrev pub rows_of : ℕ → List (List Rights) → List (List meaning.Rights)
rows_of tenants held = map (λ row. map rights_of (take tenants row)) held

-- what so many actors are granted, and what they are forbidden, in rows by owner
abbrev pub granted_of : ℕ → List (List Standing) → List (List meaning.Rights)
granted_of tenants table = rows_of tenants (map (map (λ standing. standing.granted)) table)

abbrev pub forbidden_of : ℕ → List (List Standing) → List (List meaning.Rights)
forbidden_of tenants table = rows_of tenants (map (map (λ standing. standing.forbidden)) table)

-- the policy of so many workers, a greatest generation, tenants with their limits, arenas with
-- whom they admit, the arena of each segment, and how each actor stands to each owner
abbrev pub policy_kept : ℕ → ℕ → Named ℕ → Named TenantSet → List ℕ → List (List Standing) → meaning.Policy
policy_kept workers greatest tenants arenas segments standings = record {
  workers = workers;
  max_generation = greatest;
  tenants = tenants_of tenants;
  arenas = names_of arenas;
  segments = segments;
  admitted = admitted_of (length tenants) arenas;
  granted = granted_of (length tenants) standings;
  forbidden = forbidden_of (length tenants) standings;
}

abbrev pub policy_of : Inside → meaning.Policy
policy_of p = policy_kept p.workers p.max_generation p.tenants.entries p.arenas.entries
    p.segments.items p.standings.items

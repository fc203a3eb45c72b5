-- Sets of tenants as bits.
use Rattle.std.specs.Prelude.{ℕ, ◌==◌, ◌||◌, Bool, false, List, map, slice_index_or}
use Rattle.std.specs.Int.{bit_at}
use Rattle.std.specs.List.{list_any, range_with_len}
use Rattle.hg_policy.specs.declared.tenant_set.TenantSet.{TenantSet}

-- the bit of a tenant is 1
abbrev pub has_tenant : TenantSet → ℕ → Bool
has_tenant set tenant = bit_at set.0 tenant == 1

-- of each of so many tenants whether the set has it
abbrev pub flags_of : ℕ → TenantSet → List Bool
flags_of tenants set = map (has_tenant set) (range_with_len 0 tenants)

-- just these of so many tenants
abbrev pub just : ℕ → List ℕ → List Bool
just tenants members =
    map (λ tenant. list_any (λ member. member == tenant) members) (range_with_len 0 tenants)

-- of each of so many tenants whether it is in one list or the other
abbrev pub either : ℕ → List Bool → List Bool → List Bool
either tenants some more =
    map (λ tenant. slice_index_or some tenant false || slice_index_or more tenant false)
    (range_with_len 0 tenants)

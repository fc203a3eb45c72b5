-- The parts of what is shown of a policy.
use Rattle.std.specs.Prelude.{ℕ, ◌++◌, ◌==◌, Bool, false, List, [], Option, Some, None, codes}
use Rattle.std.specs.Prelude.{count_by, decimal, length, unwrap_or, if◌then◌else◌}
use Rattle.std.specs.List.{flat_map, range_with_len}
use Rattle.hg_machine.specs.Policy.{Policy, arena_of, limit_of}
use Rattle.hg_machine.specs.Denial.{is_admitted}
use Rattle.hg_policy.specs.Names.{arena_number, tenant_name}

-- the numbers of the tenants
abbrev pub tenants_in : Policy → List ℕ
tenants_in policy = range_with_len 0 (length policy.tenants)

abbrev pub name_of : Policy → ℕ → List ℕ
name_of policy tenant = unwrap_or (tenant_name policy tenant) []

-- the arena of this name admits the tenant
abbrev pub may_be_in : Policy → List ℕ → ℕ → Bool
may_be_in policy arena tenant = is_admitted policy (arena_number policy arena) tenant

abbrev pub is_number : Option ℕ → ℕ → Bool
is_number None number = false
is_number (Some other) number = other == number

-- how many segments an arena has
abbrev pub is_segment_of : Policy → ℕ → ℕ → Bool
is_segment_of policy arena segment = is_number (arena_of policy segment) arena

abbrev pub segments_of : Policy → ℕ → ℕ
segments_of policy arena =
    count_by (is_segment_of policy arena) (range_with_len 0 (length policy.segments))

abbrev pub segments_at : Policy → Option ℕ → ℕ
segments_at policy None = 0
segments_at policy (Some arena) = segments_of policy arena

-- a name behind a blank, where it is to be told
unfoldable pub told : Bool → List ℕ → List ℕ
told tells name = if tells then codes " " ++ name else []

unfoldable pub head_text : Policy → List ℕ
head_text policy =
    codes "workers " ++ decimal policy.workers
    ++ codes "\nmax_generation " ++ decimal policy.max_generation ++ codes "\n"

-- an arena that a tenant may be in, and a tenant that may be in an arena
abbrev pub arena_word : Policy → ℕ → List ℕ → List ℕ
arena_word policy tenant arena = told (may_be_in policy arena tenant) arena

abbrev pub tenant_word : Policy → List ℕ → ℕ → List ℕ
tenant_word policy arena tenant = told (may_be_in policy arena tenant) (name_of policy tenant)

-- a tenant: its limit, and where it may be
unfoldable pub tenant_line : Policy → List (List ℕ) → ℕ → List ℕ
tenant_line policy arenas tenant =
    codes "  " ++ name_of policy tenant
    ++ codes " limit " ++ decimal (limit_of policy tenant)
    ++ codes " arenas" ++ flat_map (arena_word policy tenant) arenas ++ codes "\n"

unfoldable pub tenants_text : Policy → List (List ℕ) → List ℕ
tenants_text policy arenas =
    codes "\ntenants " ++ decimal (length policy.tenants) ++ codes "\n"
    ++ flat_map (tenant_line policy arenas) (tenants_in policy)

-- an arena: how many segments it has, and who may be in it
unfoldable pub arena_line : Policy → List ℕ → List ℕ
arena_line policy arena =
    codes "  " ++ arena
    ++ codes " segments " ++ decimal (segments_at policy (arena_number policy arena))
    ++ codes " tenants" ++ flat_map (tenant_word policy arena) (tenants_in policy) ++ codes "\n"

unfoldable pub arenas_text : Policy → List (List ℕ) → List ℕ
arenas_text policy arenas =
    codes "\narenas " ++ decimal (length policy.arenas) ++ codes "\n"
    ++ flat_map (arena_line policy) arenas

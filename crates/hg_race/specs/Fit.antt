-- Which policies a race can be run under.
use Rattle.std.specs.Prelude.{◌==◌, ◌&&◌, ℕ, Bool, false, List, Option, Some, None, codes, nat_le, not}
use Rattle.std.specs.Prelude.{if◌then◌else◌}
use Rattle.std.specs.List.{list_any}
use Rattle.hg_machine.specs.Policy.{Policy, is_tenant, limit_of, admits}

-- the first tenant is there, and may have a block of 8 bytes
abbrev pub has_room : Policy → Bool
has_room policy = is_tenant policy 0 && nat_le 8 (limit_of policy 0)

-- this is the first arena
abbrev pub is_first : Option ℕ → Bool
is_first None = false
is_first (Some arena) = arena == 0

-- a segment is of the first arena
abbrev pub has_segment : Policy → Bool
has_segment policy = list_any (λ arena. arena == 0) policy.segments

-- there are two workers, such a tenant, and a segment in the first arena, which admits that tenant
abbrev pub is_fit : Policy → Bool
is_fit policy =
    nat_le 2 policy.workers && (has_room policy && (has_segment policy && admits policy 0 0))

-- what a policy lacks for a race, of several the first
unfoldable pub lack_text : Policy → Option (List ℕ)
lack_text policy =
    if not (nat_le 2 policy.workers)
    then Some (codes "a race takes two workers, and the policy has one")
    else (if not (is_tenant policy 0)
    then Some (codes "a race takes a tenant, and the policy has none")
    else (if not (nat_le 8 (limit_of policy 0))
    then Some (codes "a race takes 8 bytes, and the first tenant's limit is below that")
    else (if not (has_segment policy)
    then Some (codes "a race takes a segment of the first arena, and there is none")
    else (if not (admits policy 0 0)
    then Some (codes "a race takes an arena for the first tenant, and the first one doesn't admit it")
    else None))))

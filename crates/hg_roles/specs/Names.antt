-- Each worker, list, pool and seat of a segment has a name of its own.
use Rattle.std.specs.Prelude.{◌≡◌, ◌<◌, length}
use Rattle.hg_machine.specs.Policy.{Policy}
use Rattle.hg_roles.specs.Roles.{Role, of_worker, of_remote, of_pool, of_segment, name_of}
use Rattle.hg_roles.specs.Served.{running}

-- the policy has the role: its number is one of a worker, or of a segment
abbrev pub IsOf : Policy → Role → Type 0
IsOf policy (of_worker view log) = view.worker < policy.workers
IsOf policy (of_remote segment sent) = segment < length policy.segments
IsOf policy (of_pool pooled) = Unit {0}
IsOf policy (of_segment segment) = segment < length policy.segments

-- the same worker, list or seat of a segment, whatever it has; there is one pool
abbrev pub IsSameRole : Role → Role → Type 0
IsSameRole (of_worker view log) (of_worker other more) = view.worker ≡ other.worker
IsSameRole (of_remote segment sent) (of_remote other more) = segment ≡ other
IsSameRole (of_pool pooled) (of_pool other) = Unit {0}
IsSameRole (of_segment segment) (of_segment other) = segment ≡ other
IsSameRole role other = ⊥

-- so parts of roles that the policy has may begin, one of each
abbrev pub NamesAreApart : Type 0
NamesAreApart =
    (policy : Policy) (role other : Role) → IsOf policy role → IsOf policy other
    → (name_of policy role < (running policy).count)
    × (name_of policy role ≡ name_of policy other → IsSameRole role other)

-- Names are apart: each kind of role has numbers of its own.
use Rattle.std.proofs.Common.{◌≡◌, ◌<◌, arith}
use Rattle.hg_machine.specs.Policy.{Policy}
use Rattle.hg_roles.specs.Roles.{Role, of_worker, of_remote, of_pool, of_segment, name_of}
use Rattle.hg_roles.specs.Served.{running}
use Rattle.hg_roles.specs.Names.{IsOf, IsSameRole, NamesAreApart}

below : (policy : Policy) (role : Role) → IsOf policy role
    → name_of policy role < (running policy).count
below policy (of_worker view log) is = omega arith
below policy (of_remote segment sent) is = omega arith
below policy (of_pool pooled) is = omega arith
below policy (of_segment segment) is = omega arith

apart : (policy : Policy) (role other : Role) → IsOf policy role → IsOf policy other
    → name_of policy role ≡ name_of policy other → IsSameRole role other
apart policy (of_worker view log) (of_worker other calls) is are same = same
apart policy (of_worker view log) (of_remote h more) is are same = absurd (omega arith)
apart policy (of_worker view log) (of_pool other) is are same = absurd (omega arith)
apart policy (of_worker view log) (of_segment h) is are same = absurd (omega arith)
apart policy (of_remote g sent) (of_worker other calls) is are same = absurd (omega arith)
apart policy (of_remote g sent) (of_remote h more) is are same = omega arith
apart policy (of_remote g sent) (of_pool other) is are same = absurd (omega arith)
apart policy (of_remote g sent) (of_segment h) is are same = absurd (omega arith)
apart policy (of_pool pooled) (of_worker other calls) is are same = absurd (omega arith)
apart policy (of_pool pooled) (of_remote h more) is are same = absurd (omega arith)
apart policy (of_pool pooled) (of_pool other) is are same = tt
apart policy (of_pool pooled) (of_segment h) is are same = absurd (omega arith)
apart policy (of_segment g) (of_worker other calls) is are same = absurd (omega arith)
apart policy (of_segment g) (of_remote h more) is are same = absurd (omega arith)
apart policy (of_segment g) (of_pool other) is are same = absurd (omega arith)
apart policy (of_segment g) (of_segment h) is are same = omega arith

pub names_are_apart : NamesAreApart
names_are_apart policy role other is are =
    (below policy role is, apart policy role other is are)

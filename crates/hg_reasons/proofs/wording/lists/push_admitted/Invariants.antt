use Rattle.std.proofs.Common.{◌≡◌, ◌++◌, ◌-◌, length}
use Rattle.std.specs.List.{range_with_len}
use Rattle.hg_reasons.specs.Wording.{admitted_from, admitted_text}
use Rattle.hg_reasons.proofs.wording.lists.push_admitted.Given as goal

-- what is left goes behind the tenants so far
abbrev pub invariant-loop-tenant : goal.invariant-loop-tenant
invariant-loop-tenant l =
    l.out.items ++ admitted_from l.policy l.arena l.first (range_with_len l.tenant (length l.policy.tenants - l.tenant))
    ≡ l.fn.out.items ++ admitted_text l.policy l.arena

use Rattle.std.proofs.Common.{◌≡◌, map}
use Rattle.std.specs.List.{range_with_len}
use Rattle.hg_hints.specs.PolicyNames.{tenant_at}
use Rattle.hg_hints.proofs.Numbered.{texts}
use Rattle.hg_hints.proofs.policy_names.tenants.Given as goal

-- the names so far
abbrev pub invariant-loop-tenant : goal.invariant-loop-tenant
invariant-loop-tenant l = texts l.names.items ≡ map (tenant_at l.policy) (range_with_len 0 l.tenant)

use Rattle.std.proofs.Common.{◌≡◌, ◌++◌}
use Rattle.std.specs.List.{flat_map, range_with_len}
use Rattle.hg_reasons.specs.Counts.{tenant_row}
use Rattle.hg_reasons.proofs.counts.push_tenants.Given as goal

-- the tenants so far are told
abbrev pub invariant-loop-tenant : goal.invariant-loop-tenant
invariant-loop-tenant l = l.out.items ≡ l.fn.out.items ++ flat_map (tenant_row l.form l.policy l.lines) (range_with_len 0 l.tenant)

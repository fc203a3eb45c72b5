use Rattle.std.proofs.Common.{◌≡◌, ◌++◌}
use Rattle.std.specs.List.{flat_map, range_with_len}
use Rattle.hg_state.specs.Blocks.{tenant_line}
use Rattle.hg_state.proofs.blocks.push_tenants.Given as goal

-- the tenants so far are told
abbrev pub invariant-loop-tenant : goal.invariant-loop-tenant
invariant-loop-tenant l = l.out.items ≡ l.fn.out.items ++ flat_map (tenant_line l.form l.core.state) (range_with_len 0 l.tenant)

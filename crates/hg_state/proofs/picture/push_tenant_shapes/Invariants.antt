use Rattle.std.proofs.Common.{◌≡◌, ◌++◌}
use Rattle.std.specs.List.{flat_map, range_with_len}
use Rattle.hg_state.specs.Shapes.{tenant_shape}
use Rattle.hg_state.proofs.picture.push_tenant_shapes.Given as goal

-- the tenants so far are drawn
abbrev pub invariant-loop-tenant : goal.invariant-loop-tenant
invariant-loop-tenant l = l.out.items ≡ l.fn.out.items ++ flat_map (tenant_shape l.drawing l.core.state.policy) (range_with_len 0 l.tenant)

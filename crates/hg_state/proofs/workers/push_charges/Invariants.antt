use Rattle.std.proofs.Common.{◌≡◌, ◌++◌}
use Rattle.std.specs.List.{flat_map, range_with_len}
use Rattle.hg_state.specs.Workers.{charge_line}
use Rattle.hg_state.proofs.workers.push_charges.Given as goal

-- the tenants so far are told
abbrev pub invariant-loop-tenant : goal.invariant-loop-tenant
invariant-loop-tenant l = l.out.items ≡ l.fn.out.items ++ flat_map (charge_line l.form l.core.state l.worker) (range_with_len 0 l.tenant)

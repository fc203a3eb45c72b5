use Rattle.std.proofs.Common.{◌≡◌, ◌++◌}
use Rattle.std.specs.List.{flat_map, range_with_len}
use Rattle.std.proofs.Common.{map}
use Rattle.toml.specs.View.{view}
use Rattle.hg_show.specs.Rows.{names_in}
use Rattle.hg_show.specs.Parts.{tenant_line}
use Rattle.hg_show.proofs.parts.push_tenant_lines.Given as goal

-- the numbers so far are told
abbrev pub invariant-loop-tenant : goal.invariant-loop-tenant
invariant-loop-tenant l = l.out.items ≡ l.fn.out.items ++ flat_map (tenant_line l.policy (names_in (map view l.arenas))) (range_with_len 0 l.tenant)

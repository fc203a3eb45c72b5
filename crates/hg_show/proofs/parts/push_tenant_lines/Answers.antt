use Rattle.std.proofs.Common.{◌≡◌, length, arith}
use Rattle.std.proofs.Common.{map}
use Rattle.toml.specs.View.{view}
use Rattle.hg_show.specs.Rows.{names_in}
use Rattle.hg_show.specs.Parts.{tenant_line}
use Rattle.hg_show.proofs.TextLemmas.{numbers_more, numbers_all}
use Rattle.hg_show.proofs.parts.push_tenant_lines.Goals as goal

pub loop-tenant-preserved : goal.loop-tenant-preserved
loop-tenant-preserved c = numbers_more (tenant_line c.args.policy.now (names_in (map view c.args.arenas.now))) c.loop-tenant.tenant c.args.out.now.items c.loop-tenant.out.items c.push_tenant.new.out.items c.loop-tenant.invariant c.in_ok-push_tenant.ensures

pub returns : goal.returns
returns c =
    let ends : c.loop-tenant.tenant ≡ length c.args.policy.now.tenants = omega (arith, c.loop-tenant-test.false, c.loop-tenant.auto.tenant-end, c.tenants-tenant-end.ensures.tenants) in
    numbers_all (tenant_line c.args.policy.now (names_in (map view c.args.arenas.now))) c.loop-tenant.tenant (length c.args.policy.now.tenants) c.args.out.now.items c.loop-tenant.out.items ends c.loop-tenant.invariant

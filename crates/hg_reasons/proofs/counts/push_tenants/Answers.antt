use Rattle.std.proofs.Common.{◌≡◌, length, arith}
use Rattle.hg_reasons.specs.Counts.{tenant_row}
use Rattle.hg_text.proofs.Texts.{numbers_more, numbers_all}
use Rattle.hg_reasons.proofs.counts.push_tenants.Goals as goal

pub loop-tenant-preserved : goal.loop-tenant-preserved
loop-tenant-preserved c =
    numbers_more (tenant_row c.args.form c.args.policy.now c.args.lines.now) c.loop-tenant.tenant c.args.out.now.items c.loop-tenant.out.items c.push_tenant.new.out.items
    c.loop-tenant.invariant c.in_ok-push_tenant.ensures

pub returns : goal.returns
returns c =
    let ends : c.loop-tenant.tenant ≡ length c.args.policy.now.tenants = omega (arith, c.loop-tenant-test.false, c.loop-tenant.auto.tenant-end, c.tenants-tenant-end.ensures.tenants) in
    numbers_all (tenant_row c.args.form c.args.policy.now c.args.lines.now) c.loop-tenant.tenant (length c.args.policy.now.tenants) c.args.out.now.items c.loop-tenant.out.items ends c.loop-tenant.invariant

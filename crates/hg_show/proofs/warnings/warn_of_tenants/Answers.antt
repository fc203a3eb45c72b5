use Rattle.std.proofs.Common.{◌≡◌, length, arith}
use Rattle.hg_show.specs.Warnings.{tenant_warnings}
use Rattle.hg_show.specs.Texts.{texts_in}
use Rattle.hg_show.proofs.TextLemmas.{numbers_more, numbers_all}
use Rattle.hg_show.proofs.warnings.warn_of_tenants.Goals as goal

pub loop-tenant-preserved : goal.loop-tenant-preserved
loop-tenant-preserved c = numbers_more (tenant_warnings c.args.policy.now) c.loop-tenant.tenant (texts_in c.args.texts.now.items) (texts_in c.loop-tenant.texts.items) (texts_in c.warn_of_tenant.new.texts.items) c.loop-tenant.invariant c.in_ok-warn_of_tenant.ensures

pub returns : goal.returns
returns c =
    let ends : c.loop-tenant.tenant ≡ length c.args.policy.now.tenants = omega (arith, c.loop-tenant-test.false, c.loop-tenant.auto.tenant-end, c.tenants-tenant-end.ensures.tenants) in
    numbers_all (tenant_warnings c.args.policy.now) c.loop-tenant.tenant (length c.args.policy.now.tenants) (texts_in c.args.texts.now.items) (texts_in c.loop-tenant.texts.items) ends c.loop-tenant.invariant

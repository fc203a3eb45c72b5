use Rattle.std.proofs.Common.{◌≡◌, length, ap, ◌∙◌, arith}
use Rattle.hg_state.specs.Blocks.{tenant_line}
use Rattle.hg_text.proofs.Texts.{numbers_more, numbers_all}
use Rattle.hg_state.proofs.blocks.push_tenants.Goals as goal

pub loop-tenant-preserved : goal.loop-tenant-preserved
loop-tenant-preserved c =
    numbers_more (tenant_line c.args.form c.args.core.now.state) c.loop-tenant.tenant c.args.out.now.items c.loop-tenant.out.items c.push_tenant.new.out.items c.loop-tenant.invariant c.in_ok-push_tenant.ensures

pub returns : goal.returns
returns c =
    let count = c.tenants-tenant-end.ensures.tenants ∙ ap (λ p. length p.tenants) c.policy.ensures.value in
    let ends : c.loop-tenant.tenant ≡ length c.args.core.now.state.policy.tenants = omega (arith, c.loop-tenant-test.false, c.loop-tenant.auto.tenant-end, count) in
    numbers_all (tenant_line c.args.form c.args.core.now.state) c.loop-tenant.tenant _ c.args.out.now.items c.loop-tenant.out.items ends c.loop-tenant.invariant

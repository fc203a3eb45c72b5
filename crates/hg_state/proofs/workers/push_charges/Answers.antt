use Rattle.std.proofs.Common.{◌≡◌, length, ap, ◌∙◌, arith}
use Rattle.hg_state.specs.Workers.{charge_line}
use Rattle.hg_text.proofs.Texts.{numbers_more, numbers_all}
use Rattle.hg_state.proofs.workers.push_charges.Goals as goal

pub loop-tenant-preserved : goal.loop-tenant-preserved
loop-tenant-preserved c =
    numbers_more (charge_line c.args.form c.args.core.now.state c.args.worker) c.loop-tenant.tenant c.args.out.now.items c.loop-tenant.out.items c.push_charge.new.out.items
    c.loop-tenant.invariant c.in_ok-push_charge.ensures

pub returns : goal.returns
returns c =
    let count = c.tenants-tenant-end.ensures.tenants ∙ ap (λ p. length p.tenants) c.policy.ensures.value in
    let ends : c.loop-tenant.tenant ≡ length c.args.core.now.state.policy.tenants = omega (arith, c.loop-tenant-test.false, c.loop-tenant.auto.tenant-end, count) in
    numbers_all (charge_line c.args.form c.args.core.now.state c.args.worker) c.loop-tenant.tenant _ c.args.out.now.items c.loop-tenant.out.items ends c.loop-tenant.invariant

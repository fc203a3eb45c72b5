use Rattle.std.proofs.Common.{◌≡◌, length, arith, []}
use Rattle.hg_show.specs.Json.{tenant_value}
use Rattle.hg_show.specs.Texts.{texts_in}
use Rattle.hg_show.proofs.TextLemmas.{numbers_more, numbers_all}
use Rattle.hg_show.proofs.arena_objects.tenant_values.Goals as goal

pub loop-tenant-preserved : goal.loop-tenant-preserved
loop-tenant-preserved c = numbers_more (tenant_value c.args.policy.now c.args.arena.now) c.loop-tenant.tenant [] (texts_in c.loop-tenant.values.items) (texts_in c.add_quoted_where.new.values.items) c.loop-tenant.invariant (rw (c.may_be_in-tells.ensures, c.name_of.ensures) at c.in_ok-add_quoted_where.ensures)

pub returns : goal.returns
returns c =
    let ends : c.loop-tenant.tenant ≡ length c.args.policy.now.tenants = omega (arith, c.loop-tenant-test.false, c.loop-tenant.auto.tenant-end, c.tenants-tenant-end.ensures.tenants) in
    numbers_all (tenant_value c.args.policy.now c.args.arena.now) c.loop-tenant.tenant (length c.args.policy.now.tenants) [] (texts_in c.loop-tenant.values.items) ends c.loop-tenant.invariant

use Rattle.std.proofs.Common.{◌≡◌, length, arith, [], map}
use Rattle.toml.specs.View.{view}
use Rattle.hg_show.specs.Rows.{names_in}
use Rattle.hg_show.specs.Json.{tenant_object}
use Rattle.hg_show.specs.Texts.{texts_in}
use Rattle.hg_show.proofs.TextLemmas.{number_each_more, number_each_all}
use Rattle.hg_show.proofs.tenant_objects.tenant_objects.Goals as goal

pub loop-tenant-preserved : goal.loop-tenant-preserved
loop-tenant-preserved c = number_each_more (tenant_object c.args.policy.now (names_in (map view c.args.arenas.now))) c.loop-tenant.tenant [] (texts_in c.loop-tenant.texts.items) (texts_in c.add.new.texts.items) c.loop-tenant.invariant (rw c.in_ok-tenant_object.ensures at c.in_ok-add.ensures)

pub returns : goal.returns
returns c =
    let ends : c.loop-tenant.tenant ≡ length c.args.policy.now.tenants = omega (arith, c.loop-tenant-test.false, c.loop-tenant.auto.tenant-end, c.tenants-tenant-end.ensures.tenants) in
    number_each_all (tenant_object c.args.policy.now (names_in (map view c.args.arenas.now))) c.loop-tenant.tenant (length c.args.policy.now.tenants) [] (texts_in c.loop-tenant.texts.items) ends c.loop-tenant.invariant

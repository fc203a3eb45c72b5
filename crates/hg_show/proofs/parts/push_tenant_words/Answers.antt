use Rattle.std.proofs.Common.{◌≡◌, length, arith}
use Rattle.hg_show.specs.Parts.{tenant_word}
use Rattle.hg_show.proofs.TextLemmas.{numbers_more, numbers_all}
use Rattle.hg_show.proofs.parts.push_tenant_words.Goals as goal

pub loop-tenant-preserved : goal.loop-tenant-preserved
loop-tenant-preserved c = numbers_more (tenant_word c.args.policy.now c.args.arena.now) c.loop-tenant.tenant c.args.out.now.items c.loop-tenant.out.items c.push_told.new.out.items c.loop-tenant.invariant (rw (c.may_be_in.ensures, c.name_of.ensures) at c.in_ok-push_told.ensures)

pub returns : goal.returns
returns c =
    let ends : c.loop-tenant.tenant ≡ length c.args.policy.now.tenants = omega (arith, c.loop-tenant-test.false, c.loop-tenant.auto.tenant-end, c.tenants-tenant-end.ensures.tenants) in
    numbers_all (tenant_word c.args.policy.now c.args.arena.now) c.loop-tenant.tenant (length c.args.policy.now.tenants) c.args.out.now.items c.loop-tenant.out.items ends c.loop-tenant.invariant

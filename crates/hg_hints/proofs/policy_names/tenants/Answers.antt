use Rattle.std.proofs.Common.{◌≡◌, ◌++◌, ◌∷◌, [], length, ap, ◌∙◌, arith}
use Rattle.std.proofs.lemmas.List.{map_push}
use Rattle.hg_hints.specs.PolicyNames.{tenant_at}
use Rattle.hg_hints.proofs.Numbered.{each_all, each_more, texts}
use Rattle.hg_hints.proofs.policy_names.tenants.Goals as goal

pub loop-tenant-preserved : goal.loop-tenant-preserved
loop-tenant-preserved c =
    let names = c.loop-tenant.names.items in
    let pushed : texts c.push.new.self.items ≡ texts names ++ tenant_at c.args.policy.now c.loop-tenant.tenant ∷ [] =
    ap texts c.in_ok-push.ensures.items ∙ map_push (λ name. name.now) names c.tenant_at.result ∙ ap (λ t. texts names ++ t ∷ []) c.tenant_at.ensures in
    each_more (tenant_at c.args.policy.now) c.loop-tenant.tenant (texts names) (texts c.push.new.self.items) c.loop-tenant.invariant pushed

pub returns : goal.returns
returns c =
    let ends : c.loop-tenant.tenant ≡ length c.args.policy.now.tenants = omega (arith, c.loop-tenant-test.false, c.loop-tenant.auto.tenant-end, c.tenants-tenant-end.ensures.tenants) in
    each_all (tenant_at c.args.policy.now) c.loop-tenant.tenant (length c.args.policy.now.tenants) (texts c.loop-tenant.names.items) ends c.loop-tenant.invariant

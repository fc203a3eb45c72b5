use Rattle.hg_policy.proofs.TenantBits.{with_bit}
use Rattle.hg_policy.proofs.tenant_set.TenantSet.with.Goals as goal

pub returns : goal.returns
returns c = λ other. with_bit c.args.self.0 c.args.tenant other c.requires

use Rattle.hg_policy.proofs.TenantBits.{or_bits}
use Rattle.hg_policy.proofs.tenant_set.TenantSet.or.Goals as goal

pub returns : goal.returns
returns c = λ tenant. or_bits c.args.self.0 c.args.more.0 tenant

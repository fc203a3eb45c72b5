use Rattle.hg_policy.proofs.TenantBits.{each_bit}
use Rattle.hg_policy.proofs.tenant_set.TenantSet.each.Goals as goal

pub returns : goal.returns
returns c = each_bit

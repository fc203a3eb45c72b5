use Rattle.std.proofs.Common.{rules}
use Rattle.hg_policy.proofs.RightBits.{without_rights}
use Rattle.hg_policy.proofs.rights.Rights.without.Goals as goal

pub returns : goal.returns
returns c = without_rights c.args.self c.args.less c.difference.result (search rules) (c.difference.ensures tt)

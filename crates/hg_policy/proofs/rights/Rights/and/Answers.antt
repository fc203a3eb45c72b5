use Rattle.hg_policy.proofs.RightBits.{or_rights}
use Rattle.hg_policy.proofs.rights.Rights.and.Goals as goal

pub returns : goal.returns
returns c = λ right. or_rights c.union.result c.args.self c.args.more (c.union.ensures tt) right

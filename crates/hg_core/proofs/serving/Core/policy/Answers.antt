use Rattle.hg_core.proofs.Kept.{kept_is}
use Rattle.hg_core.proofs.serving.Core.policy.Goals as goal

pub returns-clause-kept : goal.returns-clause-kept
returns-clause-kept c =
    kept_is c.self.inside.stores c.args.self.now c.self.view_is c.self.invariant

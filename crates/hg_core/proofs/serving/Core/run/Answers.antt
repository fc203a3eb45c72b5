use Rattle.hg_core.proofs.Kept.{kept_is}
use Rattle.hg_core.proofs.serving.Core.run.Goals as goal

pub returns-in_err-answers-clause-kept : goal.returns-in_err-answers-clause-kept
returns-in_err-answers-clause-kept c =
    kept_is c.self.inside.stores c.args.self.now c.self.view_is c.self.invariant

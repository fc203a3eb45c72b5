use Rattle.hg_core.proofs.Kept.{kept_sound}
use Rattle.hg_core.proofs.serving.Core.open.Goals as goal

pub returns-clause-kept : goal.returns-clause-kept
returns-clause-kept c = kept_sound c.in_ok-stores.stores c.in_ok-stores.ensures.kept

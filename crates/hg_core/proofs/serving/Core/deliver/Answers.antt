use Rattle.hg_core.proofs.Kept.{kept_sound}
use Rattle.hg_core.proofs.serving.Core.deliver.Goals as goal

pub returns-clause-chosen : goal.returns-clause-chosen
returns-clause-chosen c = rw (← c.self.view_is) c.deliver.ensures.chosen

pub returns-clause-kept : goal.returns-clause-kept
returns-clause-kept c = kept_sound c.deliver.new.self c.deliver.ensures.kept

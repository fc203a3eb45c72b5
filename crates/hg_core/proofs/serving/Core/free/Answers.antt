use Rattle.hg_core.proofs.Kept.{kept_sound}
use Rattle.hg_core.proofs.serving.Core.free.Goals as goal

pub returns-clause-chosen : goal.returns-clause-chosen
returns-clause-chosen c = rw (← c.self.view_is) c.free.ensures.chosen

pub returns-clause-kept : goal.returns-clause-kept
returns-clause-kept c = kept_sound c.free.new.self c.free.ensures.kept

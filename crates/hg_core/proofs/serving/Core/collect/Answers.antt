use Rattle.hg_core.proofs.Kept.{kept_sound}
use Rattle.hg_core.proofs.serving.Core.collect.Goals as goal

pub returns : goal.returns
returns c =
    record { step = rw (← c.self.view_is) c.collect.ensures.step; chosen = rw (← c.self.view_is) c.collect.ensures.chosen; kept = kept_sound c.collect.new.self c.collect.ensures.kept }

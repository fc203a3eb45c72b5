use Rattle.hg_core.proofs.Kept.{kept_sound}
use Rattle.hg_core.proofs.serving.Core.take.Goals as goal

pub returns : goal.returns
returns c =
    record { step = rw (← c.self.view_is) c.take.ensures.step; chosen = rw (← c.self.view_is) c.take.ensures.chosen; kept = kept_sound c.take.new.self c.take.ensures.kept }

use Rattle.hg_core.proofs.Kept.{kept_sound}
use Rattle.hg_core.proofs.serving.Core.look.Goals as goal

pub returns : goal.returns
returns c =
    record { step = rw (← c.self.view_is) c.look.ensures.step; chosen = rw (← c.self.view_is) c.look.ensures.chosen; kept = kept_sound c.look.new.self c.look.ensures.kept }

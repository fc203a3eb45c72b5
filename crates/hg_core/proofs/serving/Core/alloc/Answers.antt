use Rattle.hg_core.proofs.Kept.{kept_sound}
use Rattle.hg_core.proofs.serving.Core.alloc.Goals as goal

pub returns : goal.returns
returns c =
    record { step = rw (← c.self.view_is) c.alloc.ensures.step; chosen = rw (← c.self.view_is) c.alloc.ensures.chosen; kept = kept_sound c.alloc.new.self c.alloc.ensures.kept }

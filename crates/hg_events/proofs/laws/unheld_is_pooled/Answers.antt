use Rattle.hg_events.proofs.WordAt.{unheld_is_pooled as law}
use Rattle.hg_events.proofs.laws.unheld_is_pooled.Goals as goal

pub returns : goal.returns
returns c = law

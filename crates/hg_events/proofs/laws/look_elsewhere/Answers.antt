use Rattle.hg_events.proofs.Elsewhere.{look_elsewhere as law}
use Rattle.hg_events.proofs.laws.look_elsewhere.Goals as goal

pub returns : goal.returns
returns c = law

use Rattle.hg_events.proofs.Elsewhere.{free_is_denied_elsewhere as law}
use Rattle.hg_events.proofs.laws.free_is_denied_elsewhere.Goals as goal

pub returns : goal.returns
returns c = law

use Rattle.hg_events.proofs.OwnSteps.{free_is_denied as law}
use Rattle.hg_events.proofs.laws.free_is_denied.Goals as goal

pub returns : goal.returns
returns c = law

use Rattle.hg_events.proofs.OwnSteps.{look_is_step as law}
use Rattle.hg_events.proofs.laws.look_is_step.Goals as goal

pub returns : goal.returns
returns c = law

use Rattle.hg_events.proofs.OwnSteps.{write_is_step as law}
use Rattle.hg_events.proofs.laws.write_is_step.Goals as goal

pub returns : goal.returns
returns c = law

use Rattle.hg_events.proofs.OwnSteps.{read_is_step as law}
use Rattle.hg_events.proofs.laws.read_is_step.Goals as goal

pub returns : goal.returns
returns c = law

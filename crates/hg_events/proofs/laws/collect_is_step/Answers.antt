use Rattle.hg_events.proofs.Collects.{collect_is_step as law}
use Rattle.hg_events.proofs.laws.collect_is_step.Goals as goal

pub returns : goal.returns
returns c = law

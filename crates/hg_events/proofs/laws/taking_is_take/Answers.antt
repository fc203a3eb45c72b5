use Rattle.hg_events.proofs.Taking.{taking_is_take as law}
use Rattle.hg_events.proofs.laws.taking_is_take.Goals as goal

pub returns : goal.returns
returns c = law

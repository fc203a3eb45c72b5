use Rattle.hg_events.proofs.OwnLives.{heap_is_of_policy as law}
use Rattle.hg_events.proofs.laws.heap_is_of_policy.Goals as goal

pub returns : goal.returns
returns c = law

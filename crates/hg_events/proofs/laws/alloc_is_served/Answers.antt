use Rattle.hg_events.proofs.OwnLives.{alloc_is_served as law}
use Rattle.hg_events.proofs.laws.alloc_is_served.Goals as goal

pub returns : goal.returns
returns c = law

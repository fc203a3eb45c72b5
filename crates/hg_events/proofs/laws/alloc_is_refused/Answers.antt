use Rattle.hg_events.proofs.OwnLives.{alloc_is_refused as law}
use Rattle.hg_events.proofs.laws.alloc_is_refused.Goals as goal

pub returns : goal.returns
returns c = law

use Rattle.hg_events.proofs.OwnLives.{free_is_served as law}
use Rattle.hg_events.proofs.laws.free_is_served.Goals as goal

pub returns : goal.returns
returns c = law

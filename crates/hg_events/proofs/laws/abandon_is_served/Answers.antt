use Rattle.hg_events.proofs.LetGo.{abandon_is_served as law}
use Rattle.hg_events.proofs.laws.abandon_is_served.Goals as goal

pub returns : goal.returns
returns c = law

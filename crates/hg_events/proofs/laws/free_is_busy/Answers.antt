use Rattle.hg_events.proofs.Elsewhere.{free_is_busy as law}
use Rattle.hg_events.proofs.laws.free_is_busy.Goals as goal

pub returns : goal.returns
returns c = law

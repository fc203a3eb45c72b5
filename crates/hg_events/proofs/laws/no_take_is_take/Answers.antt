use Rattle.hg_events.proofs.Taking.{no_take_is_take as law}
use Rattle.hg_events.proofs.laws.no_take_is_take.Goals as goal

pub returns : goal.returns
returns c = law

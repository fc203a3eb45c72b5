use Rattle.hg_events.proofs.Elsewhere.{write_elsewhere as law}
use Rattle.hg_events.proofs.laws.write_elsewhere.Goals as goal

pub returns : goal.returns
returns c = law

use Rattle.hg_events.proofs.Elsewhere.{read_elsewhere as law}
use Rattle.hg_events.proofs.laws.read_elsewhere.Goals as goal

pub returns : goal.returns
returns c = law

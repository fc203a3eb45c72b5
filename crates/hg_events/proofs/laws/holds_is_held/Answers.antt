use Rattle.hg_events.proofs.Elsewhere.{holds_is_held as law}
use Rattle.hg_events.proofs.laws.holds_is_held.Goals as goal

pub returns : goal.returns
returns c = law

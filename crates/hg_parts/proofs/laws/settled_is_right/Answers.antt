use Rattle.hg_parts.proofs.Links.{settled_right as law}
use Rattle.hg_parts.proofs.laws.settled_is_right.Goals as goal

pub returns : goal.returns
returns c = law

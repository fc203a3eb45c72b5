use Rattle.hg_parts.proofs.SpotPuts.{spot_found as law}
use Rattle.hg_parts.proofs.laws.spot_is_found.Goals as goal

pub returns : goal.returns
returns c = law

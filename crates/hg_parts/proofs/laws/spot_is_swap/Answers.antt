use Rattle.hg_parts.proofs.SpotPuts.{spot_swap as law}
use Rattle.hg_parts.proofs.laws.spot_is_swap.Goals as goal

pub returns : goal.returns
returns c = law

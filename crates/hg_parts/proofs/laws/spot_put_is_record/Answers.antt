use Rattle.hg_parts.proofs.SpotPuts.{spot_put as law}
use Rattle.hg_parts.proofs.laws.spot_put_is_record.Goals as goal

pub returns : goal.returns
returns c = law

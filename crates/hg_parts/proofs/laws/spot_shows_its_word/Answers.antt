use Rattle.hg_parts.proofs.SpotPuts.{spot_shows as law}
use Rattle.hg_parts.proofs.laws.spot_shows_its_word.Goals as goal

pub returns : goal.returns
returns c = law

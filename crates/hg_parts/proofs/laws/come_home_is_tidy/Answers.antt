use Rattle.hg_parts.proofs.SpotChanges.{come_home as law}
use Rattle.hg_parts.proofs.laws.come_home_is_tidy.Goals as goal

pub returns : goal.returns
returns c = law

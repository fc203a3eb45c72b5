use Rattle.hg_chosen.proofs.Emptied.{collect_is_chosen as law}
use Rattle.hg_chosen.proofs.laws.collect_is_chosen.Goals as goal

pub returns : goal.returns
returns c = law

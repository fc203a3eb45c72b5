use Rattle.hg_chosen.proofs.Leaving.{abandon_is_chosen as law}
use Rattle.hg_chosen.proofs.laws.abandon_is_chosen.Goals as goal

pub returns : goal.returns
returns c = law

use Rattle.hg_chosen.proofs.Taken.{take_is_chosen as law}
use Rattle.hg_chosen.proofs.laws.take_is_chosen.Goals as goal

pub returns : goal.returns
returns c = law

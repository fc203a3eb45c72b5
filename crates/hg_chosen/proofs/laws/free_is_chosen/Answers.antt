use Rattle.hg_chosen.proofs.Freed.{free_is_chosen as law}
use Rattle.hg_chosen.proofs.laws.free_is_chosen.Goals as goal

pub returns : goal.returns
returns c = law

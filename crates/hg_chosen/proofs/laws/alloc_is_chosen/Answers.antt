use Rattle.hg_chosen.proofs.Allots.{alloc_is_chosen as law}
use Rattle.hg_chosen.proofs.laws.alloc_is_chosen.Goals as goal

pub returns : goal.returns
returns c = law

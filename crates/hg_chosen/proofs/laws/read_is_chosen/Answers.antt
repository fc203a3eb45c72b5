use Rattle.hg_chosen.proofs.Same.{read_is_chosen as law}
use Rattle.hg_chosen.proofs.laws.read_is_chosen.Goals as goal

pub returns : goal.returns
returns c = law

use Rattle.hg_chosen.proofs.Same.{write_is_chosen as law}
use Rattle.hg_chosen.proofs.laws.write_is_chosen.Goals as goal

pub returns : goal.returns
returns c = law

use Rattle.hg_chosen.proofs.Same.{denied_free_is_chosen as law}
use Rattle.hg_chosen.proofs.laws.denied_free_is_chosen.Goals as goal

pub returns : goal.returns
returns c = law

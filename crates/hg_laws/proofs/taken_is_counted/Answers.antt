use Rattle.hg_laws.proofs.CountsLemmas.{taken_is_counted as law}
use Rattle.hg_laws.proofs.taken_is_counted.Goals as goal

pub returns : goal.returns
returns c = law

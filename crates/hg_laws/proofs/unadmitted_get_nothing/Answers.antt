use Rattle.hg_laws.proofs.ArenasLemmas.{unadmitted_get_nothing as law}
use Rattle.hg_laws.proofs.unadmitted_get_nothing.Goals as goal

pub returns : goal.returns
returns c = law

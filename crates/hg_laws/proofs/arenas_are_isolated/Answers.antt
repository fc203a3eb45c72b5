use Rattle.hg_laws.proofs.ArenasLemmas.{arenas_are_isolated as law}
use Rattle.hg_laws.proofs.arenas_are_isolated.Goals as goal

pub returns : goal.returns
returns c = law

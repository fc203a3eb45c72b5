use Rattle.hg_state.proofs.OrphansTold.{fresh_are_apart as law}
use Rattle.hg_state.proofs.laws.fresh_are_apart.Goals as goal

pub returns : goal.returns
returns c = law

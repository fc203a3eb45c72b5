use Rattle.hg_state.proofs.OrphansTold.{steps_tell_orphans as law}
use Rattle.hg_state.proofs.laws.steps_tell_orphans.Goals as goal

pub returns : goal.returns
returns c = law

use Rattle.hg_roles.proofs.DecidingLemmas.{ties_decide as law}
use Rattle.hg_roles.proofs.ties_decide.Goals as goal

pub returns : goal.returns
returns c = law

use Rattle.hg_roles.proofs.DecidingLemmas.{private_calls_decide as law}
use Rattle.hg_roles.proofs.private_calls_decide.Goals as goal

pub returns : goal.returns
returns c = law

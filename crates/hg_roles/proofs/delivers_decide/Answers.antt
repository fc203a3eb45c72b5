use Rattle.hg_roles.proofs.DeliverLemmas.{delivers_decide as law}
use Rattle.hg_roles.proofs.delivers_decide.Goals as goal

pub returns : goal.returns
returns c = law

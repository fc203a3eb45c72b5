use Rattle.hg_roles.proofs.TakeLemmas.{takes_decide as law}
use Rattle.hg_roles.proofs.takes_decide.Goals as goal

pub returns : goal.returns
returns c = law

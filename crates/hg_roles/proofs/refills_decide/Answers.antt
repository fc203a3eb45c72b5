use Rattle.hg_roles.proofs.RefillLemmas.{refills_decide as law}
use Rattle.hg_roles.proofs.refills_decide.Goals as goal

pub returns : goal.returns
returns c = law

use Rattle.hg_roles.proofs.RefillLemmas.{empty_refills_decide as law}
use Rattle.hg_roles.proofs.empty_refills_decide.Goals as goal

pub returns : goal.returns
returns c = law

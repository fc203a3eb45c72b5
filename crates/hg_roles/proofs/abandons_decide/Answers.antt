use Rattle.hg_roles.proofs.AbandonLemmas.{abandons_decide as law}
use Rattle.hg_roles.proofs.abandons_decide.Goals as goal

pub returns : goal.returns
returns c = law

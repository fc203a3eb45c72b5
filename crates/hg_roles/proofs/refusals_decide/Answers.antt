use Rattle.hg_roles.proofs.DecidingLemmas.{refusals_decide as law}
use Rattle.hg_roles.proofs.refusals_decide.Goals as goal

pub returns : goal.returns
returns c = law

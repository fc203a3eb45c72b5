use Rattle.hg_laws.proofs.ForbiddenLemmas.{forbidden_is_never_served as law}
use Rattle.hg_laws.proofs.forbidden_is_never_served.Goals as goal

pub returns : goal.returns
returns c = law

use Rattle.hg_laws.proofs.PermittedLemmas.{permitted_is_allowed as law}
use Rattle.hg_laws.proofs.permitted_is_allowed.Goals as goal

pub returns : goal.returns
returns c = law

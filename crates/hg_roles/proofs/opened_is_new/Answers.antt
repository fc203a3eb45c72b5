use Rattle.hg_roles.proofs.BeginningLemmas.{opened_is_new as law}
use Rattle.hg_roles.proofs.opened_is_new.Goals as goal

pub returns : goal.returns
returns c = law

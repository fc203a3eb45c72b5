use Rattle.hg_roles.proofs.NameLemmas.{names_are_apart as law}
use Rattle.hg_roles.proofs.names_are_apart.Goals as goal

pub returns : goal.returns
returns c = law

use Rattle.hg_roles.proofs.FirstLemmas.{first_parts_are_there as law}
use Rattle.hg_roles.proofs.first_parts_are_there.Goals as goal

pub returns : goal.returns
returns c = law

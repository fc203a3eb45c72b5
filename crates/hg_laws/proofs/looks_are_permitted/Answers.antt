use Rattle.hg_laws.proofs.PermittedLemmas.{looks_are_permitted as law}
use Rattle.hg_laws.proofs.looks_are_permitted.Goals as goal

pub returns : goal.returns
returns c = law

use Rattle.hg_laws.proofs.PermittedLemmas.{reads_are_permitted as law}
use Rattle.hg_laws.proofs.reads_are_permitted.Goals as goal

pub returns : goal.returns
returns c = law

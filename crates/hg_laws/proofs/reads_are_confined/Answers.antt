use Rattle.hg_laws.proofs.ConfinementLemmas.{reads_are_confined as law}
use Rattle.hg_laws.proofs.reads_are_confined.Goals as goal

pub returns : goal.returns
returns c = law

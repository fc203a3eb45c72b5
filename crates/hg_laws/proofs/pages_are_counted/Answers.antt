use Rattle.hg_laws.proofs.CountsLemmas.{pages_are_counted as law}
use Rattle.hg_laws.proofs.pages_are_counted.Goals as goal

pub returns : goal.returns
returns c = law

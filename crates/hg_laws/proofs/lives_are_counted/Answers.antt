use Rattle.hg_laws.proofs.LivesLemmas.{lives_are_counted as law}
use Rattle.hg_laws.proofs.lives_are_counted.Goals as goal

pub returns : goal.returns
returns c = law

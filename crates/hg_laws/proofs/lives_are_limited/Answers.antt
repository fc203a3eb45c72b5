use Rattle.hg_laws.proofs.LivesLemmas.{lives_are_limited as law}
use Rattle.hg_laws.proofs.lives_are_limited.Goals as goal

pub returns : goal.returns
returns c = law

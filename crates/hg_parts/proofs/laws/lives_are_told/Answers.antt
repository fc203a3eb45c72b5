use Rattle.hg_parts.proofs.Links.{lives_told as law}
use Rattle.hg_parts.proofs.laws.lives_are_told.Goals as goal

pub returns : goal.returns
returns c = law

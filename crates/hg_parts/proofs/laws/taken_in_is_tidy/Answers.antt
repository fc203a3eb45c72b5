use Rattle.hg_parts.proofs.Remotes.{taken_in_tidy as law}
use Rattle.hg_parts.proofs.laws.taken_in_is_tidy.Goals as goal

pub returns : goal.returns
returns c = law

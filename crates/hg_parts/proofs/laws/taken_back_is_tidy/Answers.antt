use Rattle.hg_parts.proofs.Remotes.{taken_back as law}
use Rattle.hg_parts.proofs.laws.taken_back_is_tidy.Goals as goal

pub returns : goal.returns
returns c = law

use Rattle.hg_parts.proofs.Moved.{taken_up_tidy as law}
use Rattle.hg_parts.proofs.laws.taken_up_is_tidy.Goals as goal

pub returns : goal.returns
returns c = law

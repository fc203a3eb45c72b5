use Rattle.hg_parts.proofs.Moved.{moved_tidy as law}
use Rattle.hg_parts.proofs.laws.moved_is_tidy.Goals as goal

pub returns : goal.returns
returns c = law
